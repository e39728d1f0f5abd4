-- What a call does to a live router: it makes a step, or it is refused.
use Rattle.std.specs.Prelude.{◌≡◌, ℕ, List, map, Option, Some, None}
use Rattle.std.specs.Option.{option_map}
use Rattle.clk_inlet.specs.declared.inlet.Inlet.{Inlet}
use Rattle.clk_live.specs.State.{LiveState}
use Rattle.clickpull_c.specs.declared.live.router.LiveRouter.{LiveRouter}
use Rattle.clickpull_c.specs.declared.statuses.TheConstants.{RECLAIMED}

-- the inlet of each sender, by place, if it was not handed out
abbrev pub inlets_of : LiveRouter → List (Option Inlet)
inlets_of l = map (option_map (λ b. b.value)) l.inlets.items

-- The router went from one state to another, and nothing else changed.
pub record Goes (old new : LiveRouter) (before after : LiveState) : Type 0 where
  pub was : old.live ≡ Some before
  pub is : new.live ≡ Some after
  pub inlets : inlets_of new ≡ inlets_of old
  pub reclaimed : new.reclaimed ≡ old.reclaimed

-- nothing changed
pub record IsUnchanged (old new : LiveRouter) : Type 0 where
  pub live : new.live ≡ old.live
  pub inlets : inlets_of new ≡ inlets_of old
  pub reclaimed : new.reclaimed ≡ old.reclaimed

-- A call made this step. Or it was refused for this reason, or since the router was reclaimed; then nothing changed.
pub data Answers (old new : LiveRouter) (status : ℕ) (Step : LiveState → LiveState → Type 0) (Refused : LiveState → Type 0) (Unfilled : Type 0) : Type 0 where
  done : (before after : LiveState) → Goes old new before after → Step before after → Answers old new status Step Refused Unfilled
  refused : (state : LiveState) → old.live ≡ Some state → Refused state → IsUnchanged old new → Unfilled → Answers old new status Step Refused Unfilled
  reclaimed : old.live ≡ None → status ≡ RECLAIMED → IsUnchanged old new → Unfilled → Answers old new status Step Refused Unfilled
