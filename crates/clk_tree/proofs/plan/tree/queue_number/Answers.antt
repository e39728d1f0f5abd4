use Rattle.clk_tree.proofs.Building.TreeLemmas.{queue-numbered}
use Rattle.clk_tree.proofs.plan.tree.queue_number.Goals as goal

pub returns : goal.returns
returns c = queue-numbered c.args.elements.now c.args.place c.loop-element.element-index c.loop-element.number c.requires.queue c.loop-element-test.false c.loop-element.invariant.all
