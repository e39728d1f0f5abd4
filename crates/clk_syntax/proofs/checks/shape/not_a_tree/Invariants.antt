use Rattle.std.proofs.Common.{◌≡◌, drop}
use Rattle.clk_syntax.specs.Ports.{not_a_tree, not_a_tree_from}
use Rattle.clk_syntax.proofs.checks.shape.not_a_tree.Given as goal

abbrev pub invariant-loop-place : goal.invariant-loop-place
invariant-loop-place l =
    not_a_tree_from l.place (drop l.place l.graph.nodes.now) l.graph.nodes.now l.graph.links.now ≡ not_a_tree l.graph.nodes.now l.graph.links.now
