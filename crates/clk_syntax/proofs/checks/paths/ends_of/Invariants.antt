use Rattle.std.proofs.Common.{length}
use Rattle.clk_syntax.proofs.Graphs.PathLemmas.{IsHalfway}
use Rattle.clk_syntax.proofs.checks.paths.ends_of.Given as goal

abbrev pub invariant-loop-left : goal.invariant-loop-left
invariant-loop-left l = IsHalfway (length l.graph.nodes.now) l.graph.links.now l.left l.ends.items l.step.items

abbrev pub decreases-loop-left : goal.decreases-loop-left
decreases-loop-left l = l.left
