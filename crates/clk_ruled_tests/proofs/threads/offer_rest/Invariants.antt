use Rattle.std.specs.Prelude.{◌-◌}
use Rattle.clk_ruled.specs.Queue.{IsSeatOf}
use Rattle.clk_ruled.specs.Closing.{IsSameSeat}
use Rattle.clk_ruled_tests.proofs.threads.offer_rest.Given as goal

abbrev pub invariant-loop-seat : goal.invariant-loop-seat
invariant-loop-seat g l = IsSeatOf l.queue l.seat × IsSameSeat l.fn.seat l.seat

abbrev pub decreases-loop-seat : goal.decreases-loop-seat
decreases-loop-seat g l = l.seat.room - l.seat.next
