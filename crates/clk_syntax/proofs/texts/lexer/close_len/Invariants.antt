use Rattle.std.proofs.Common.{◌≡◌, ◌+◌, length}
use Rattle.std.specs.Option.{option_map}
use Rattle.clk_syntax.specs.Tokens.{comment_end}
use Rattle.clk_syntax.proofs.texts.lexer.close_len.Given as goal

abbrev pub invariant-loop-left : goal.invariant-loop-left
invariant-loop-left l = (comment_end l.text ≡ option_map (λ n. l.len + n) (comment_end l.left)) × (l.len + length l.left ≡ length l.text)

abbrev pub decreases-loop-left : goal.decreases-loop-left
decreases-loop-left l = length l.left
