use Rattle.std.proofs.Common.{◌+◌, ◌*◌}
use Rattle.clk_sched.specs.Built.{row}
use Rattle.clk_sched.specs.Session.{elements}
use Rattle.clk_sched.specs.inside.LaidOut.{elements_of}
use Rattle.clk_sched.proofs.tree.+mark.Given as goal

abbrev pub decreases-Tree::mark : goal.decreases-Tree::mark
decreases-Tree::mark l = 2 * elements_of l.self.now

abbrev pub decreases-distinct::mark : goal.decreases-distinct::mark
decreases-distinct::mark l = 2 * elements (row l.trees.now) + 1
