-- What the tap of a line gathered, and how much it took.
use Rattle.std.specs.Prelude.{◌≡◌, true}
use Rattle.std.specs.List.{AllByRecursion}
use Rattle.clk_ruled.specs.Queue.{ClosedLists}
use Rattle.clk_ruled.specs.Settle.{IsTakenWithin, IsAllTaken}
use Rattle.clk_drain.specs.Line.{LineLists}

-- each seat of a line was gathered
abbrev pub HasGathered : LineLists → Type 0
HasGathered l = AllByRecursion (λ (c : ClosedLists). c.is_gathered ≡ true) l.closed

-- At most as many packets were taken from a line as its queue accepted and didn't evict.
abbrev pub IsWithin : LineLists → Type 0
IsWithin l = IsTakenWithin l.tap l.closed

-- Exactly as many packets were taken from a line as its queue accepted and didn't evict.
abbrev pub HasAllTaken : LineLists → Type 0
HasAllTaken l = IsAllTaken l.tap l.closed
