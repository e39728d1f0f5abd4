use Rattle.std.proofs.Common.{length}
use Rattle.clk_syntax.specs.inside.Lex.{LexedTo}
use Rattle.clk_syntax.proofs.texts.lexer.tokens_of.Given as goal

abbrev pub invariant-loop-left : goal.invariant-loop-left
invariant-loop-left l = LexedTo l.text l.tokens.items l.place l.left l.unclosed

abbrev pub decreases-loop-left : goal.decreases-loop-left
decreases-loop-left l = length l.left
