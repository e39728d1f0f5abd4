use Rattle.std.proofs.Common.{map, ◌∙◌}
use Rattle.std.proofs.lemmas.Result.{IfOk-weaker}
use Rattle.clk_tree.specs.Elements.{planned}
use Rattle.clk_tree.proofs.Denoted.PlanLemmas.{read-all, read-denotes}
use Rattle.clk_tree.proofs.plan.read_elements.Goals as goal

pub elements_of-requires-clause-all : goal.elements_of-requires-clause-all
elements_of-requires-clause-all c =
    read-all c.args.text.now c.in_ok-statements.statements.declarations.items c.deref-3.result.now c.in_ok-statements.statements.connections.items
    c.in_ok-statements.named.nodes.items c.in_ok-graph.graph.nodes.now c.in_ok-statements.named.links.items c.in_ok-statements.ensures.named
    (c.in_ok-graph.ensures.nodes ∙ c.deref.ensures.value) c.deref-3.ensures.value

pub returns-clause-denotes : goal.returns-clause-denotes
returns-clause-denotes c =
    IfOk-weaker c.elements_of.result _ _ (λ elements made.
    read-denotes c.args.text.now c.in_ok-statements.statements.declarations.items c.deref-3.result.now c.in_ok-statements.statements.connections.items
    c.in_ok-statements.named.nodes.items c.in_ok-graph.graph.nodes.now c.in_ok-statements.named.links.items c.in_ok-graph.graph.links.now (map planned elements.items)
    c.in_ok-statements.ensures.named (c.in_ok-graph.ensures.nodes ∙ c.deref.ensures.value) (c.in_ok-graph.ensures.links ∙ c.deref-2.ensures.value) c.deref-3.ensures.value
    c.in-Ok.ensures.good made) c.elements_of.ensures.made
