use Rattle.std.proofs.Common.{List, map, subst}
use Rattle.clk_sched.specs.Tree.{Tree}
use Rattle.clk_tree.specs.Elements.{planned}
use Rattle.clk_tree.specs.PlanParts.{queued, queues_of}
use Rattle.clk_tree.specs.Shares.{AreTreesOf, AreSharedOut}
use Rattle.clk_tree.proofs.Denoted.PlanLemmas.{kept-shared}
use Rattle.clk_tree.proofs.plan.Plan.trees_share_queues.Goals as goal

pub returns : goal.returns
returns c =
    subst (λ plan. (trees : List Tree) → AreTreesOf plan trees → AreSharedOut (queues_of plan) trees) c.self.view_is
    (kept-shared (map planned c.self.inside.elements.items) c.self.inside.tops.items (map queued c.self.inside.queues.items) c.self.inside.senders.items c.self.invariant)
