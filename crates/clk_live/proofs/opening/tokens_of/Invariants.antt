use Rattle.clk_tree.specs.PlanParts.{queues_of}
use Rattle.clk_live.specs.inside.Opened.{AreRoomy}
use Rattle.clk_live.proofs.opening.tokens_of.Given as goal

abbrev pub invariant-loop-queue : goal.invariant-loop-queue
invariant-loop-queue l = AreRoomy (queues_of l.plan) l.counts.items l.queue l.tokens.items
