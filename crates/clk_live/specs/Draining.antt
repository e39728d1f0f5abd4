-- What drains of a live router do.
use Rattle.std.specs.Prelude.{◌≡◌, ℕ, ◌+◌, ◌<◌, ◌≤◌, List, [], ◌∷◌, length, take, drop, ◌⊎◌, Option, Some, None}
use Rattle.clk_router.specs.Chains.{IsChain}
use Rattle.clk_router.specs.Course.{Course, accepted_at, evicted_at, emitted_at, moment_at, CanPull}
use Rattle.clk_router.specs.Drains.{HasLeft}
use Rattle.clk_live.specs.declared.draining.Departed.{Departed}
use Rattle.clk_live.specs.declared.draining.DrainEnd.{DrainEnd}
use Rattle.clk_live.specs.declared.draining.DrainEnd.TheVariants as ends
use Rattle.clk_live.specs.declared.pulling.Emitted.{Emitted}
use Rattle.clk_live.specs.State.{Seen}
use Rattle.clk_live.specs.Pulling.{IsPulledLive}

-- a pull of a drain: its moment, and what it emitted
pub record DrainPull : Type 0 where
  pub moment : ℕ
  pub got : Option Emitted

-- no packet is left for a device
abbrev pub IsEmptied : Course → ℕ → Type 0
IsEmptied c device = accepted_at c device ≡ evicted_at c device + emitted_at c device

-- a device for which packets were left was pulled one tick after its latest moment
pub record PullsNext (device : ℕ) (old : Seen) (pull : DrainPull) (new : Seen) : Type 0 where
  pub left : HasLeft old.course device
  pub moment : pull.moment ≡ moment_at old.course device + 1
  pub pulled : IsPulledLive device pull.moment old pull.got new

-- these departures, after the packet that a pull emitted at this moment, if it emitted one
abbrev pub with_departed : ℕ → Option Emitted → List Departed → List Departed
with_departed moment None others = others
with_departed moment (Some e) others = record { moment = moment; packet = e.packet; token = e.token } ∷ others

-- the packets that these pulls emitted, each with its moment
abbrev pub departed_of : List DrainPull → List Departed
departed_of [] = []
departed_of (pull ∷ pulls) = with_departed pull.moment pull.got (departed_of pulls)

-- A drain ended: no packet is left; or all places are filled or all pulls made; or the next pull cannot be made.
abbrev pub EndsDrain : (end : DrainEnd) → (now : Course) → (device count most made given : ℕ) → Type 0
EndsDrain ends.Empty now device count most made given = IsEmptied now device
EndsDrain ends.MoreLeft now device count most made given = HasLeft now device × ((given ≡ count) ⊎ (made ≡ most))
EndsDrain ends.AtEnd now device count most made given = HasLeft now device × (CanPull now device (moment_at now device + 1) → ⊥)

-- A device was pulled one tick apart, at most `most` times, each time with packets left for it and a place free. `given` packets were
-- emitted, and filled in with their moments. The other places are unchanged.
pub record AreDrained (device most : ℕ) (old new : Seen) (before filled : List Departed) (given : ℕ) (end : DrainEnd) : Type 0 where
  pub pulls : List DrainPull
  pub made : IsChain (PullsNext device) old pulls new
  pub few : length pulls ≤ most
  pub within : given ≤ length before
  pub room : (n : ℕ) → n < length pulls → length (departed_of (take n pulls)) < length before
  pub gave : take given filled ≡ departed_of pulls
  pub others : drop given filled ≡ drop given before
  pub ends : EndsDrain end new.course device (length before) most (length pulls) given
