use Rattle.clk_drain.proofs.Leaves.LineSteps.{AreGathering}
use Rattle.clk_drain.proofs.closing.gather_all.Given as goal

abbrev pub invariant-loop-line : goal.invariant-loop-line
invariant-loop-line l = AreGathering l.fn.lines l.line-items l.line-index
