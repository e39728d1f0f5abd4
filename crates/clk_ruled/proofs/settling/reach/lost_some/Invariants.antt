use Rattle.std.proofs.Common.{◌≡◌, drop}
use Rattle.clk_ruled.specs.Settle.{lost_count, lists_of}
use Rattle.clk_ruled.proofs.settling.reach.lost_some.Given as goal

-- what is left to see has all that was lost
abbrev pub invariant-loop-seat : goal.invariant-loop-seat
invariant-loop-seat l = lost_count (lists_of (drop l.seat-index l.closed)) ≡ lost_count (lists_of l.closed)
