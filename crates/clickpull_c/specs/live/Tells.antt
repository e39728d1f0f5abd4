-- What calls tell of a live router.
use Rattle.std.specs.Prelude.{◌≡◌, ℕ, map, MatchOption}
use Rattle.clk_inlet.specs.Halves.{taken}
use Rattle.clk_router.specs.Course.{Course}
use Rattle.clk_router.specs.Settled.{IsDrained}
use Rattle.clk_live.specs.Outcome.{AreAllEnded, AreAllWhole, IsLiveOutcome}
use Rattle.clk_live.specs.State.{LiveState}
use Rattle.clickpull_c.specs.declared.live.router.LiveRouter.{LiveRouter}
use Rattle.clickpull_c.specs.declared.statuses.TheConstants.{OK, NONE}
use Rattle.clickpull_c.specs.live.State.{Answers}

-- A call told something of the router and changed nothing, or was refused.
abbrev pub AnswersTold : (old new : LiveRouter) (status : ℕ) (Told Refused : LiveState → Type 0) (Unfilled : Type 0) → Type 0
AnswersTold old new status Told Refused Unfilled = Answers old new status (λ a b. (b ≡ a) × Told a) Refused Unfilled

-- what a call returns that tells how many there are of something: 0, if the router was reclaimed
abbrev pub IsCount : LiveRouter → (Course → ℕ) → ℕ → Type 0
IsCount l count told = MatchOption l.live (told ≡ 0) (λ s. told ≡ count s.course)

-- Whether every inlet has ended. If so, nothing more can come through them.
pub data TellsEnded (s : LiveState) (status : ℕ) : Type 0 where
  ended : status ≡ OK → AreAllEnded s.outlets → AreAllWhole s.outlets → TellsEnded s status
  not_ended : status ≡ NONE → (AreAllEnded s.outlets → ⊥) → TellsEnded s status

-- Whether no packet is left inside. Then all that was taken from the inlets is settled.
pub data TellsDrained (s : LiveState) (status : ℕ) : Type 0 where
  drained : status ≡ OK → IsLiveOutcome s.course (map taken s.outlets) → TellsDrained s status
  not_drained : status ≡ NONE → (IsDrained s.course → ⊥) → TellsDrained s status
