use Rattle.std.proofs.Common.{◌≡◌, drop}
use Rattle.clk_syntax.specs.Ports.{port_missing, port_missing_from}
use Rattle.clk_syntax.proofs.checks.ports.port_missing.Given as goal

abbrev pub invariant-loop-place : goal.invariant-loop-place
invariant-loop-place l = port_missing_from l.place (drop l.place l.graph.nodes.now) l.graph.links.now ≡ port_missing l.graph.nodes.now l.graph.links.now
