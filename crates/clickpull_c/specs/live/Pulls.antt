-- What pulls of a live router do, and what they fill in.
use Rattle.std.specs.Prelude.{◌≡◌, ℕ, List, length, map, take, Option, Some, None}
use Rattle.std.specs.Option.{option_map}
use Rattle.clk_live.specs.State.{LiveState, seen}
use Rattle.clk_live.specs.Pulling.{IsPulledLive, ArePulled, packet_of}
use Rattle.clk_live.specs.declared.pulling.Emitted.{Emitted}
use Rattle.clickpull_c.specs.declared.live.router.LiveRouter.{LiveRouter}
use Rattle.clickpull_c.specs.declared.live.values.CEmitted.{CEmitted}
use Rattle.clickpull_c.specs.Answers.{RefusesPull}
use Rattle.clickpull_c.specs.Calls.{pull_status, pulls_status}
use Rattle.clickpull_c.specs.Filled.{IsFilled}
use Rattle.clickpull_c.specs.live.State.{Answers}
use Rattle.clickpull_c.specs.live.Values.{emitted_in_c}

-- what the place for a packet holds after a pull with this result
abbrev pub emitted_fills : CEmitted → Option Emitted → CEmitted
emitted_fills before None = before
emitted_fills before (Some e) = emitted_in_c e

-- A device was pulled once. If it emitted a packet, that was filled in with its token. This status was returned.
pub record PullsOnce (device moment : ℕ) (old new : LiveState) (before filled : CEmitted) (status : ℕ) : Type 0 where
  pub got : Option Emitted
  pub pulled : IsPulledLive device moment (seen old) got (seen new)
  pub filled_is : filled ≡ emitted_fills before got
  pub status_is : status ≡ pull_status (option_map packet_of got)
  pub unchanged : (new.outlets ≡ old.outlets) × (new.turn ≡ old.turn)

-- A device was pulled again and again. `given` packets were emitted, and filled in as C sees them.
pub record PullsMany (device moment : ℕ) (old new : LiveState) (before filled : List CEmitted) (given : ℕ) : Type 0 where
  pub slots : List Emitted
  pub gave : List Emitted
  pub many : length slots ≡ length before
  pub are_pulled : ArePulled device moment (seen old) (seen new) slots gave given
  pub are_filled : IsFilled before filled (map emitted_in_c (take given gave))
  pub unchanged : (new.outlets ≡ old.outlets) × (new.turn ≡ old.turn)

-- A call pulled a device once, or was refused.
abbrev pub AnswersOnePull : (old new : LiveRouter) (device moment : ℕ) (before filled : CEmitted) (status : ℕ) → Type 0
AnswersOnePull old new device moment before filled status =
    Answers old new status (λ a b. PullsOnce device moment a b before filled status) (λ s. RefusesPull s.course device moment status) (filled ≡ before)

-- A call pulled a device again and again, or was refused.
abbrev pub AnswersPulls : (old new : LiveRouter) (device moment : ℕ) (before filled : List CEmitted) (given status : ℕ) → Type 0
AnswersPulls old new device moment before filled given status =
    Answers old new status (λ a b. PullsMany device moment a b before filled given × (status ≡ pulls_status given (length before))) (λ s. RefusesPull s.course device moment status) ((filled ≡ before) × (given ≡ 0))
