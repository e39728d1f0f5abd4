use Rattle.std.proofs.Common.{rules}
use Rattle.clk_syntax.proofs.Parsing.LexLemmas.{first-rest, lexed-more}
use Rattle.clk_syntax.proofs.texts.lexer.tokens_of.Goals as goal

pub loop-left-preserved : goal.loop-left-preserved
loop-left-preserved c =
    let p = c.piece_at-piece.ensures in
    let k = c.in_ok-len.ensures.kept in
    lexed-more c.loop-left.invariant (first-rest c.loop-left.left.now 0 c.in-len1-up.len_at_least) p.piece p.some p.within p.kept k.0 k.1 (search rules)
