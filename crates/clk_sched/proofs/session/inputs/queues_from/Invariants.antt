use Rattle.clk_sched.proofs.Trees.QueuesFrom.{AreQueuesSoFar}
use Rattle.clk_sched.proofs.session.inputs.queues_from.Given as goal

abbrev pub invariant-loop-place : goal.invariant-loop-place
invariant-loop-place l = AreQueuesSoFar l.leaf l.place l.fn.each
