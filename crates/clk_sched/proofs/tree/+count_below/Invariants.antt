use Rattle.std.proofs.Common.{◌+◌, ◌*◌}
use Rattle.clk_sched.specs.Built.{row}
use Rattle.clk_sched.specs.Session.{elements}
use Rattle.clk_sched.specs.inside.LaidOut.{elements_of}
use Rattle.clk_sched.proofs.tree.+count_below.Given as goal

abbrev pub decreases-Tree::count_below : goal.decreases-Tree::count_below
decreases-Tree::count_below l = 2 * elements_of l.self.now

abbrev pub decreases-drrs::count_below : goal.decreases-drrs::count_below
decreases-drrs::count_below l = 2 * elements (row l.trees.now) + 1
