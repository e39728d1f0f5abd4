use Rattle.std.specs.Prelude.{◌≡◌, map}
use Rattle.clk_ruled.specs.Settle.{AreOpenedTogether, closing}
use Rattle.clk_drain_tests.proofs.shared.line.Given as goal

abbrev pub invariant-loop-place : goal.invariant-loop-place
invariant-loop-place g l = AreOpenedTogether l.queue l.tap (map closing l.seats.items)

abbrev pub invariant-loop-seat : goal.invariant-loop-seat
invariant-loop-seat g l = l.closed.items ≡ map closing l.yielded
