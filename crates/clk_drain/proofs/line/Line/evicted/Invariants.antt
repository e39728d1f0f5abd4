use Rattle.std.proofs.Common.{◌≡◌, ◌+◌, drop}
use Rattle.clk_ruled.specs.Settle.{evicted_count, lists_of}
use Rattle.clk_drain.specs.Line.{seats_of}
use Rattle.clk_drain.proofs.line.Line.evicted.Given as goal

-- what was counted and what is left to count are all
abbrev pub invariant-loop-seat : goal.invariant-loop-seat
invariant-loop-seat l = l.evicted + evicted_count (lists_of (drop l.seat-index l.seat-items)) ≡ evicted_count (seats_of l.self)
