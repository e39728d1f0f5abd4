use Rattle.std.proofs.Common.{◌≡◌, ◌∷◌, [], ℕ, map, slice_get, IfOk, sym, subst}
use Rattle.clk_packet.specs.declared.limits.TheConstants.{MAX_LEVELS}
use Rattle.clk_packet.specs.Lists.{stands_in}
use Rattle.clk_sched.specs.Tree.{Tree, root, leaves}
use Rattle.clk_tree.specs.Elements.{planned}
use Rattle.clk_tree.specs.PlanParts.{queued, queues_of, leads_to}
use Rattle.clk_tree.specs.PlanTree.{IsRowOf}
use Rattle.clk_tree.specs.inside.PlanTree.{IsScheduled}
use Rattle.clk_tree.proofs.Denoted.PlanLemmas.{IsMadeTree, kept-below, kept-scheduled, kept-made}
use Rattle.clk_tree.proofs.plan.Plan.tree.Goals as goal

pub tree_at-requires-clause-scheduled : goal.tree_at-requires-clause-scheduled
tree_at-requires-clause-scheduled c =
    let plan = map planned c.self.inside.elements.items in
    let queues = map queued c.self.inside.queues.items in
    let below = kept-below plan c.args.self.now c.self.inside.tops.items queues c.self.inside.senders.items c.args.device c.self.invariant c.self.view_is c.requires.device in
    subst (λ es. IsScheduled (map planned es) MAX_LEVELS c.index.result.now) (sym c.deref.ensures.value)
    (kept-scheduled plan c.self.inside.tops.items queues c.self.inside.senders.items c.args.device c.index.result.now c.self.invariant below c.index.ensures)

-- the tree that is made there
made : (c : goal.After-tree_at) → IsMadeTree (map planned c.self.inside.elements.items) c.args.device c.tree_at.result
made c =
    let plan = map planned c.self.inside.elements.items in
    let queues = map queued c.self.inside.queues.items in
    let below = kept-below plan c.args.self.now c.self.inside.tops.items queues c.self.inside.senders.items c.args.device c.self.invariant c.self.view_is c.requires.device in
    kept-made plan c.self.inside.tops.items queues c.self.inside.senders.items c.args.device c.index.result.now c.tree_at.result c.self.invariant below c.index.ensures
    (subst (λ es. IfOk c.tree_at.result (λ tree. IsRowOf (map planned es) (c.index.result.now ∷ []) (root tree))) c.deref.ensures.value c.tree_at.ensures.tree)

pub returns-clause-distinct : goal.returns-clause-distinct
returns-clause-distinct c = (made c).distinct

pub returns-clause-fits : goal.returns-clause-fits
returns-clause-fits c = (made c).fits

pub returns-clause-leaves : goal.returns-clause-leaves
returns-clause-leaves c =
    subst (λ plan. IfOk c.tree_at.result (λ (tree : Tree). (q : ℕ) → stands_in q (leaves (root tree)) ≡ leads_to c.args.device (slice_get (queues_of plan) q))) c.self.view_is (made c).leaves
