use Rattle.std.proofs.Common.{length, drop}
use Rattle.clk_syntax.specs.Tables.{IsInputs}
use Rattle.clk_syntax.proofs.checks.tables.inputs_of.Given as goal

abbrev pub invariant-loop-place : goal.invariant-loop-place
invariant-loop-place l = IsInputs (length l.nodes) (drop l.place l.links) l.inputs.items
