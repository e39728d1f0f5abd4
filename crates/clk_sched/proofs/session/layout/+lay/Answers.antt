use Rattle.std.proofs.lemmas.Grind.{common_steps}
use Rattle.std.proofs.Common.{◌++◌, length, slice_set, refl, ap, ◌∙◌, arith, rules}
use Rattle.clk_sched.specs.Built.{row}
use Rattle.clk_sched.specs.declared.session.inputs.Below.{Below}
use Rattle.clk_sched.specs.inside.Places.{inputs_of}
use Rattle.clk_sched.proofs.Trees.TreeLemmas.{elements-row}
use Rattle.clk_sched.proofs.Trees.Added.{nodes-elements, nodes_of-elements_of, adds-size, adds-row, adds-node, inputs-more}
use Rattle.clk_sched.proofs.session.layout.+lay.Goals as goal

pub lay_inputs-lay_inputs-requires : goal.lay_inputs-lay_inputs-requires
lay_inputs-lay_inputs-requires t c = search (rules, elements-row, nodes_of-elements_of, adds-size)

pub lay-overflow_add-below-in-Inner : goal.lay-overflow_add-below-in-Inner
lay-overflow_add-below-in-Inner t c = search (rules, nodes-elements)

pub lay_node-new-requires-3 : goal.lay_node-new-requires-3
lay_node-new-requires-3 t c =
    let few = nodes-elements (row c.args.trees.now) in
    let is = ap (λ (b : Below). b.nodes) c.in_ok-below.ensures.below in
    omega (arith, few, is)

pub lay_inputs-overflow_add-result-2 : goal.lay_inputs-overflow_add-result-2
lay_inputs-overflow_add-result-2 t c = search (rules, elements-row, nodes_of-elements_of, nodes-elements)

pub lay_inputs-returns-clause-adds : goal.lay_inputs-returns-clause-adds
lay_inputs-returns-clause-adds t c = grind (arith, common_steps, adds-row)

pub lay_inputs-returns-clause-each : goal.lay_inputs-returns-clause-each
lay_inputs-returns-clause-each t c = search (rules, inputs-more)

pub lay_node-returns-clause-adds : goal.lay_node-returns-clause-adds
lay_node-returns-clause-adds t c =
    adds-node c.args.tables.now _ c.lay_inputs.new.tables _ (row c.args.trees.now) c.args.state _ c.new-3.result c.in_ok-push-2.ensures.items c.in_ok-push.ensures.items
    c.in_ok-below.ensures.adds
    (ap (λ v. v.items) c.new-3.ensures.each ∙ c.in_ok-below.ensures.each ∙ ap (λ l. l ++ inputs_of (length c.push-2.new.self.items) (row c.args.trees.now)) c.in_ok-each.ensures.items)
    (c.new-3.ensures.below ∙ c.in_ok-below.ensures.below) (ap (λ n. slice_set c.lay_inputs.new.tables.inputs.items n c.new-3.result) (c.len-number.ensures ∙ c.args.tables.now.inputs.ok.0)) refl
