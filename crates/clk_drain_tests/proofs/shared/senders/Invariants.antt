use Rattle.std.proofs.Common.{◌≡◌, ◌+◌, ◌++◌, drop}
use Rattle.clk_ruled.specs.Settle.{lists_of, accepted_count}
use Rattle.clk_sched.specs.declared.limits.TheConstants.{MAX_LEFT}
use Rattle.clk_drain.specs.Line.{senders_at, seats_in}
use Rattle.clk_drain.specs.Closing.{accepted_over}
use Rattle.clk_drain_tests.proofs.shared.senders.Given as goal

-- what was added and what is left to add are all
abbrev pub invariant-loop-line : goal.invariant-loop-line
invariant-loop-line g l = record {
  all : l.senders.items ++ senders_at (seats_in (drop l.line-index l.lines)) ≡ senders_at (seats_in l.lines);
  few : accepted_over (drop l.line-index l.lines) + MAX_LEFT ≡ accepted_over l.lines + l.spare;
}

abbrev pub invariant-loop-seat : goal.invariant-loop-seat
invariant-loop-seat g l = record {
  all : l.senders.items ++ (senders_at (lists_of (drop l.seat-index l.seat-items)) ++ senders_at (seats_in (drop (l.line-index + 1) l.lines))) ≡ senders_at (seats_in l.lines);
  few : accepted_count (lists_of (drop l.seat-index l.seat-items)) + (accepted_over (drop (l.line-index + 1) l.lines) + MAX_LEFT) ≡ accepted_over l.lines + l.spare;
}
