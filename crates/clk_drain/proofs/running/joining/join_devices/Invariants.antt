use Rattle.std.specs.Vec.Iter.{into_iter_items}
use Rattle.clk_drain.specs.inside.Handed.{joined_feeds}
use Rattle.clk_drain.proofs.Threads.JoinSteps.{AreJoiningDevices}
use Rattle.clk_drain.proofs.running.joining.join_devices.Given as goal

abbrev pub invariant-loop-its_queues : goal.invariant-loop-its_queues
invariant-loop-its_queues l = AreJoiningDevices (joined_feeds l.fn.queues.items l.fn.ends.items l.fn.closed.items) l.closings.items (into_iter_items l.its_queues-iterator) (into_iter_items l.ends) (into_iter_items l.closed)
