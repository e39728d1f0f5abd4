-- How many packets a sweep over senders takes from each.
use Rattle.std.specs.Prelude.{◌≡◌, ℕ, ◌+◌, ◌-◌, ◌<◌, ◌≤◌, ◌⊎◌, Bool, true, false, List, Some, slice_get}
use Rattle.clk_live.specs.declared.taking.Taken.{Taken}
use Rattle.clk_live.specs.State.{LiveState}
use Rattle.clk_live.specs.Taking.{count_of, GaveAll, GaveAllThatFits}
use Rattle.clk_router.specs.Course.{sender_at}
use Rattle.clk_router.specs.Events.{Setup}

-- A sweep took at most `each` packets of the sender at a place, and none if it didn't visit the place.
pub record IsEach (first end each place : ℕ) (old new : ℕ) : Type 0 where
  pub most : new ≤ old + each
  pub others : (place < first) ⊎ (end ≤ place) → new ≡ old

-- A sweep took at most `each` packets of each sender that it visited, none of the others, and none of an unknown sender.
abbrev pub AreEach : Setup → (first end each : ℕ) → List Taken → List Taken → Type 0
AreEach setup first end each old new =
    ((place s : ℕ) → sender_at setup place ≡ Some s → IsEach first end each place (count_of s old) (count_of s new))
    × ((s : ℕ) → ((place : ℕ) → sender_at setup place ≡ Some s → ⊥) → count_of s new ≡ count_of s old)

-- A sender gave all that was wanted of it: all that was seen in its ring or, with `only_fitting`, all of that which fits.
abbrev pub GaveAllWanted : (only_fitting : Bool) → LiveState → LiveState → ℕ → Type 0
GaveAllWanted false old new place = GaveAll old.outlets new.outlets place
GaveAllWanted true old new place = GaveAllThatFits old new place

-- Each sender that the sweep visited gave `each` packets more, or `Otherwise` holds of its place.
abbrev pub GaveSharesOr : (ℕ → Type 0) → Setup → (first end each : ℕ) → List Taken → List Taken → Type 0
GaveSharesOr Otherwise setup first end each old new =
    (place s : ℕ) → first ≤ place → place < end → sender_at setup place ≡ Some s → (count_of s new ≡ count_of s old + each) ⊎ Otherwise place

-- A sweep that began at place `first` with slot `from` filled all slots, `count` in all, and would go on at `place`. If it filled none,
-- `place` is where it began. Otherwise it is the place after the last packet's sender.
pub record IsLast (setup : Setup) (first from : ℕ) (filled : List Taken) (count place : ℕ) : Type 0 where
  pub none : from ≡ count → place ≡ first
  pub some : from < count → (t : Taken) → slice_get filled (count - 1) ≡ Some t → (first < place) × (sender_at setup (place - 1) ≡ Some t.packet.sender)
