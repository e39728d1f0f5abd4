use Rattle.clk_drain.proofs.Leaves.GatherSteps.{IsGathering}
use Rattle.clk_drain.proofs.line.gather_seats.Given as goal

abbrev pub invariant-loop-seat : goal.invariant-loop-seat
invariant-loop-seat l = IsGathering l.queue l.fn.tap l.fn.closed l.tap l.seat-items l.seat-index
