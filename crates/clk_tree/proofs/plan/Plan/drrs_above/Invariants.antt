use Rattle.clk_tree.proofs.Denoted.DrrCounts.{AreCounted}
use Rattle.clk_tree.proofs.plan.Plan.drrs_above.Given as goal

abbrev pub invariant-loop-device : goal.invariant-loop-device
invariant-loop-device l = AreCounted l.self l.device l.counts.items
