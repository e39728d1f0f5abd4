use Rattle.clk_live_run.proofs.Closings.{DrainedSoFar}
use Rattle.clk_live_run.proofs.closing.drain.Given as goal

abbrev pub invariant-loop : goal.invariant-loop
invariant-loop g l = (goal.iterator-loop g).can_next l.iterator' × (goal.iterator-loop g).is_finite l.iterator' × DrainedSoFar l.device l.fn.live l.live
