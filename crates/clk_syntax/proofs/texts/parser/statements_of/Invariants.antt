use Rattle.std.proofs.Common.{length}
use Rattle.clk_syntax.specs.inside.Parse.{ReadSoFar}
use Rattle.clk_syntax.proofs.texts.parser.statements_of.Given as goal

abbrev pub invariant-loop-left : goal.invariant-loop-left
invariant-loop-left l = ReadSoFar l.fn.tokens l.statements l.left

abbrev pub decreases-loop-left : goal.decreases-loop-left
decreases-loop-left l = length l.left
