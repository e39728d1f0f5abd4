use Rattle.std.proofs.Common.{◌+◌, map, drop, sym, ap, ◌∙◌, arith}
use Rattle.clk_tree.specs.Elements.{planned}
use Rattle.clk_tree.specs.PlanParts.{queue_fed}
use Rattle.clk_tree.proofs.Building.PartSteps.{queue-found, queue-passed, other-passed}
use Rattle.clk_tree.proofs.plan.parts.queue_fed.Goals as goal
use Rattle.clk_tree.proofs.plan.parts.queue_fed.Goals.{then-is_queue+else-contains, else-is_queue}

pub returns-then-contains : goal.returns-then-contains
returns-then-contains c =
    queue-found c.args.elements.now c.args.place c.loop-element.element-index c.loop-element.queue c.element-item.result c.deref.result.now c.loop-element-test.true c.element-item.is
    (sym c.is_queue.ensures ∙ c.if-is_queue.true) c.deref.ensures.value (sym c.contains.ensures.value ∙ c.if-contains.true) c.loop-element.invariant.all

pub loop-element-preserved : goal.loop-element-preserved
loop-element-preserved c = record {
  all = elim c.if-is_queue.branch [
    | then-is_queue+else-contains w ↦ ap (λ q. q + queue_fed (map planned (drop (c.loop-element.element-index + 1) c.args.elements.now)) c.args.place) w.queue-is
        ∙ queue-passed c.args.elements.now c.args.place c.loop-element.element-index c.loop-element.queue c.element-item.result w.deref.result.now c.loop-element-test.true c.element-item.is
        (sym c.is_queue.ensures ∙ w.if-is_queue.true) w.deref.ensures.value (sym w.contains.ensures.value ∙ w.if-contains.false) c.loop-element.invariant.all
    | else-is_queue w ↦ ap (λ q. q + queue_fed (map planned (drop (c.loop-element.element-index + 1) c.args.elements.now)) c.args.place) w.queue-is
        ∙ other-passed c.args.elements.now c.args.place c.loop-element.element-index c.loop-element.queue c.element-item.result c.loop-element-test.true c.element-item.is
        (sym c.is_queue.ensures ∙ w.if-is_queue.false) c.loop-element.invariant.all
  ];
  bound = elim c.if-is_queue.branch [
    | then-is_queue+else-contains w ↦ (let low = c.loop-element.invariant.bound in let is = w.queue-is in omega (arith, low, is))
    | else-is_queue w ↦ (let low = c.loop-element.invariant.bound in let is = w.queue-is in omega (arith, low, is))
  ];
}
