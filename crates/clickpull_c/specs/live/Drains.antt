-- What drains of a live router do, and what they fill in.
use Rattle.std.specs.Prelude.{◌≡◌, ℕ, List, length, map, take}
use Rattle.clk_live.specs.State.{LiveState, seen}
use Rattle.clk_live.specs.Draining.{AreDrained}
use Rattle.clk_live.specs.declared.draining.Departed.{Departed}
use Rattle.clk_live.specs.declared.draining.DrainEnd.{DrainEnd}
use Rattle.clk_live.specs.declared.draining.DrainEnd.TheVariants as ends
use Rattle.clickpull_c.specs.declared.live.router.LiveRouter.{LiveRouter}
use Rattle.clickpull_c.specs.declared.live.values.CDeparted.{CDeparted}
use Rattle.clickpull_c.specs.declared.statuses.TheConstants.{OK, NONE, AT_END}
use Rattle.clickpull_c.specs.Answers.{HasNoDevice}
use Rattle.clickpull_c.specs.Filled.{IsFilled}
use Rattle.clickpull_c.specs.live.State.{Answers}
use Rattle.clickpull_c.specs.live.Values.{departed_in_c}

-- what a drain with this end returns
abbrev pub drain_status : DrainEnd → ℕ
drain_status ends.Empty = OK
drain_status ends.MoreLeft = NONE
drain_status ends.AtEnd = AT_END

-- A device was drained. `given` packets were emitted, and filled in as C sees them.
pub record Drains (device most : ℕ) (old new : LiveState) (before filled : List CDeparted) (given status : ℕ) : Type 0 where
  pub slots : List Departed
  pub gave : List Departed
  pub end : DrainEnd
  pub many : length slots ≡ length before
  pub are_drained : AreDrained device most (seen old) (seen new) slots gave given end
  pub are_filled : IsFilled before filled (map departed_in_c (take given gave))
  pub status_is : status ≡ drain_status end
  pub unchanged : (new.outlets ≡ old.outlets) × (new.turn ≡ old.turn)

-- A call drained a device, or was refused.
abbrev pub AnswersDrain : (old new : LiveRouter) (device most : ℕ) (before filled : List CDeparted) (given status : ℕ) → Type 0
AnswersDrain old new device most before filled given status =
    Answers old new status (λ a b. Drains device most a b before filled given status) (λ s. HasNoDevice s.course device status) ((filled ≡ before) × (given ≡ 0))
