use Rattle.std.proofs.Common.{◌+◌, ◌*◌}
use Rattle.clk_sched.specs.Built.{row}
use Rattle.clk_sched.specs.Session.{elements}
use Rattle.clk_sched.specs.inside.LaidOut.{elements_of}
use Rattle.clk_sched.proofs.tree.+most_rounds.Given as goal

abbrev pub decreases-Tree::most_rounds : goal.decreases-Tree::most_rounds
decreases-Tree::most_rounds l = 2 * elements_of l.self.now

abbrev pub decreases-bound::most_rounds : goal.decreases-bound::most_rounds
decreases-bound::most_rounds l = 2 * elements (row l.trees.now) + 1
