use Rattle.std.proofs.Common.{ℕ, map, length, sym, ap, subst, ◌∙◌}
use Rattle.clk_sched.specs.Built.{row}
use Rattle.clk_syntax.specs.Classes.{class_view}
use Rattle.clk_tree.specs.PlanTree.{IsRowOf}
use Rattle.clk_tree.specs.inside.PlanTree.{IsOver}
use Rattle.clk_tree.specs.Elements.{planned}
use Rattle.clk_tree.proofs.Building.TreeLemmas.{IsMade, scheduler-here, over-made, so-far-more, all-made}
use Rattle.clk_tree.proofs.plan.tree.+tree.Goals as goal

pub tree_at-over-requires : goal.tree_at-over-requires
tree_at-over-requires n c =
    let h = scheduler-here c.args.elements.now c.args.place c.args.levels c.index-elements-place.result c.requires.scheduled c.index-elements-place.is (sym c.is_queue.ensures ∙ c.if-is_queue.false) in
    record { inputs = subst (IsOver (class_view c.index-elements-place.result.class)) (sym (c.in_ok-children.ensures.count ∙ ap length c.deref.ensures.value)) h.over }

made : (n : ℕ) (c : goal.tree_at-After-over n) → IsMade (map planned c.args.elements.now) c.args.place c.args.levels c.over.result
made n c =
    over-made (map planned c.args.elements.now) c.args.place c.args.levels (planned c.index-elements-place.result) c.in_ok-children.children.items c.over.result c.requires.levels
    (scheduler-here c.args.elements.now c.args.place c.args.levels c.index-elements-place.result c.requires.scheduled c.index-elements-place.is (sym c.is_queue.ensures ∙ c.if-is_queue.false))
    (c.in_ok-children.ensures.count ∙ ap length c.deref.ensures.value)
    (subst (λ ps. IsRowOf (map planned c.args.elements.now) ps (row c.in_ok-children.children.items)) c.deref.ensures.value c.in_ok-children.ensures.trees)
    c.in_ok-children.ensures.height c.over.ensures

pub tree_at-returns-clause-tree : goal.tree_at-returns-clause-tree
tree_at-returns-clause-tree n c = (made n c).tree

pub tree_at-returns-clause-height : goal.tree_at-returns-clause-height
tree_at-returns-clause-height n c = (made n c).height

pub tree_at-returns-clause-fault : goal.tree_at-returns-clause-fault
tree_at-returns-clause-fault n c = (made n c).fault

pub trees_at-loop-place-preserved : goal.trees_at-loop-place-preserved
trees_at-loop-place-preserved n c =
    so-far-more (map planned c.args.elements.now) c.args.levels c.args.places.now c.loop-place.place-index _ c.loop-place.trees.items c.push.new.self.items c.in_ok-tree_at.field-0 c.loop-place.invariant
    c.loop-place-test.true (c.in_ok-push.ensures.items) (c.in_ok-tree_at.ensures.tree) (c.in_ok-tree_at.ensures.height)

pub trees_at-returns-clause-trees : goal.trees_at-returns-clause-trees
trees_at-returns-clause-trees n c =
    all-made (map planned c.args.elements.now) c.args.levels c.args.places.now c.loop-place.place-index c.loop-place.trees.items c.loop-place.invariant c.loop-place-test.false
