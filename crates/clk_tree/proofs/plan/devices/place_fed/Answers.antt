use Rattle.clk_tree.proofs.Building.PathSteps.{place-found, place-passed}
use Rattle.std.proofs.Common.{sym, ◌∙◌, arith}
use Rattle.clk_tree.proofs.plan.devices.place_fed.Goals as goal

pub returns-then-contains : goal.returns-then-contains
returns-then-contains c =
    place-found c.args.elements.now c.args.place c.loop-element.element-index c.loop-element.fed c.element-item.result c.deref.result.now c.loop-element-test.true c.element-item.is
    c.deref.ensures.value (sym c.contains.ensures.value ∙ c.if-contains.true) c.loop-element.invariant.all

pub loop-element-preserved : goal.loop-element-preserved
loop-element-preserved c = record {
  all = place-passed c.args.elements.now c.args.place c.loop-element.element-index c.loop-element.fed c.element-item.result c.deref.result.now c.loop-element-test.true c.element-item.is
      c.deref.ensures.value (sym c.contains.ensures.value ∙ c.if-contains.false) c.loop-element.invariant.all;
  bound = let low = c.loop-element.invariant.bound in omega (arith, low);
}
