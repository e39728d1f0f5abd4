use Rattle.clk_tree.proofs.Building.QueueSteps.{AreQueues}
use Rattle.clk_tree.proofs.plan.parts.queues_of.Given as goal

-- the queues so far and those in what is left are all
abbrev pub invariant-loop-place : goal.invariant-loop-place
invariant-loop-place l = AreQueues l.elements l.place l.number l.queues.items
