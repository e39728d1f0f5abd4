use Rattle.std.proofs.Common.{◌≡◌, length}
use Rattle.clk_syntax.proofs.checks.used.starts_of.Given as goal

abbrev pub invariant-loop-place : goal.invariant-loop-place
invariant-loop-place l = length l.starts.items ≡ l.place
