use Rattle.std.specs.Vec.Iter.{into_iter_items}
use Rattle.clk_drain.specs.inside.Handed.{joined_lines}
use Rattle.clk_drain.proofs.Threads.JoinSteps.{AreJoining}
use Rattle.clk_drain.proofs.running.joining.join_lines.Given as goal

abbrev pub invariant-loop-leaf : goal.invariant-loop-leaf
invariant-loop-leaf l = AreJoining (joined_lines l.fn.queues.items l.fn.taps.items l.fn.closed.items) l.lines.items (into_iter_items l.leaf-iterator) (into_iter_items l.taps) (into_iter_items l.closed)
