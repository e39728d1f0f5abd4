use Rattle.std.proofs.Common.{◌≡◌, ◌+◌, drop}
use Rattle.clk_ruled.specs.Settle.{accepted_count, lists_of}
use Rattle.clk_drain.specs.Line.{seats_of}
use Rattle.clk_drain.proofs.line.Line.accepted.Given as goal

-- what was counted and what is left to count are all
abbrev pub invariant-loop-seat : goal.invariant-loop-seat
invariant-loop-seat l = l.accepted + accepted_count (lists_of (drop l.seat-index l.seat-items)) ≡ accepted_count (seats_of l.self)
