use Rattle.std.proofs.Common.{◌≡◌, ◌<◌, ℕ, length, get_or}
use Rattle.clk_syntax.proofs.checks.paths.composed.Given as goal

abbrev pub invariant-loop-place : goal.invariant-loop-place
invariant-loop-place l = record {
  len : length l.table.items ≡ l.place-index;
  each : (i : ℕ) → i < l.place-index → get_or l.table.items i 0 ≡ get_or l.second (get_or l.first i 0) 0;
}
