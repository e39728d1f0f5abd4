use Rattle.std.proofs.Common.{length, drop}
use Rattle.clk_syntax.specs.Tables.{IsTargets}
use Rattle.clk_syntax.proofs.checks.tables.targets_of.Given as goal

abbrev pub invariant-loop-place : goal.invariant-loop-place
invariant-loop-place l = IsTargets (length l.nodes) (drop l.place l.links) l.targets.items
