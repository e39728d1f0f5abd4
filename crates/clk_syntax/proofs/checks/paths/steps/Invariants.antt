use Rattle.std.proofs.Common.{◌≡◌, ◌<◌, ℕ, length, get_or}
use Rattle.clk_syntax.specs.Ports.{next}
use Rattle.clk_syntax.proofs.checks.paths.steps.Given as goal

abbrev pub invariant-loop-place : goal.invariant-loop-place
invariant-loop-place l = record {
  len : length l.table.items ≡ l.place;
  each : (i : ℕ) → i < l.place → get_or l.table.items i 0 ≡ next l.graph.links.now i;
}
