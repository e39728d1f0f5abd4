use Rattle.std.proofs.Common.{◌≡◌, drop}
use Rattle.clk_syntax.specs.Size.{some_too_large}
use Rattle.clk_syntax.proofs.checks.shape.too_large.Given as goal

abbrev pub invariant-loop-place : goal.invariant-loop-place
invariant-loop-place l =
    some_too_large l.place (drop l.place l.graph.nodes.now) l.graph.nodes.now l.graph.links.now ≡ some_too_large 0 l.graph.nodes.now l.graph.nodes.now l.graph.links.now
