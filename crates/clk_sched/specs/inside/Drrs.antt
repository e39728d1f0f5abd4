-- Tables in which DRRScheds are counted, by the numbers of queues.
use Rattle.std.specs.Prelude.{◌≡◌, ℕ, ◌+◌, ◌<◌, true, List, length, slice_index, if◌then◌else◌}
use Rattle.clk_packet.specs.Lists.{stands_in}
use Rattle.clk_sched.specs.Tree.{Row, leaves}
use Rattle.clk_sched.specs.FewHeads.{drrs_above}

-- a table has a place for each queue of a row
abbrev pub HasPlaces : Row → List ℕ → Type 0
HasPlaces row table = (q : ℕ) → stands_in q (leaves row) ≡ true → q < length table

-- Below so many DRRScheds, a row was counted: its queues have new counts, and all else in the table is as it was.
pub record IsCounted (above : ℕ) (row : Row) (old new : List ℕ) : Type 0 where
  pub long : length new ≡ length old
  pub each : (q : ℕ) → slice_index new q ≡ (if stands_in q (leaves row) then above + drrs_above q row else slice_index old q)
