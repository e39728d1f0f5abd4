use Rattle.std.proofs.Common.{◌+◌, ◌*◌}
use Rattle.clk_sched.specs.Built.{row}
use Rattle.clk_sched.specs.Session.{elements}
use Rattle.clk_sched.specs.inside.LaidOut.{elements_of}
use Rattle.clk_sched.proofs.session.layout.+lay.Given as goal

abbrev pub decreases-lay : goal.decreases-lay
decreases-lay l = 3 * elements_of l.tree.now

abbrev pub decreases-lay_node : goal.decreases-lay_node
decreases-lay_node l = 3 * elements (row l.trees.now) + 2

abbrev pub decreases-lay_inputs : goal.decreases-lay_inputs
decreases-lay_inputs l = 3 * elements (row l.trees.now) + 1
