use Rattle.clk_tree.proofs.Building.PathSteps.{devices-counted}
use Rattle.clk_tree.proofs.plan.devices.devices_before.Goals as goal

pub returns : goal.returns
returns c =
    devices-counted c.args.elements.now c.args.place c.min-end.result c.loop-element.element-index c.loop-element.count c.min-end.ensures c.loop-element-test.false c.loop-element.invariant.all
