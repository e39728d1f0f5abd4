use Rattle.std.proofs.Common.{◌+◌, ◌*◌}
use Rattle.clk_sched.specs.Built.{row}
use Rattle.clk_sched.specs.Session.{elements}
use Rattle.clk_sched.specs.inside.LaidOut.{elements_of}
use Rattle.clk_sched.proofs.session.layout.+room.Given as goal

abbrev pub decreases-room_after : goal.decreases-room_after
decreases-room_after l = 2 * elements_of l.tree.now

abbrev pub decreases-room_after_each : goal.decreases-room_after_each
decreases-room_after_each l = 2 * elements (row l.trees.now) + 1
