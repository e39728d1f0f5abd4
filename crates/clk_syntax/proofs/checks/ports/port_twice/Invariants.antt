use Rattle.std.proofs.Common.{◌≡◌, length, drop}
use Rattle.clk_syntax.specs.inside.Used.{is_used, size}
use Rattle.clk_syntax.proofs.Graphs.PortLemmas.{HasSeen}
use Rattle.clk_syntax.proofs.checks.ports.port_twice.Given as goal

abbrev pub invariant-loop-link : goal.invariant-loop-link
invariant-loop-link l = record {
  size : size l.inputs ≡ length l.graph.nodes.now;
  seen : HasSeen l.graph.nodes.now l.graph.links.now (drop l.link-index l.graph.links.now) l.outputs.items (is_used l.inputs);
}
