use Rattle.std.proofs.Common.{◌≡◌, ◌+◌, ◌<◌, ◌≤◌, length}
use Rattle.clk_syntax.specs.Size.{levels_from, levels}
use Rattle.clk_syntax.proofs.checks.shape.levels.Given as goal

abbrev pub invariant-loop-left : goal.invariant-loop-left
invariant-loop-left l = record {
  within : l.at < length l.graph.nodes.now;
  few : l.count + l.left ≤ length l.graph.nodes.now;
  same : l.count + levels_from l.graph.nodes.now l.graph.links.now l.left l.at ≡ levels l.graph.nodes.now l.graph.links.now l.start;
}
