-- The tokens of a text, and what holds of each.
pub use Rattle.clk_syntax.proofs.Parsing.LexLemmas.{tokens-after}
pub use Rattle.clk_syntax.proofs.Parsing.ParseLemmas.{bare-word}
pub use Rattle.clk_syntax.proofs.Parsing.NumberTokens.{word_token, word-long, all-tokens}
pub use Rattle.clk_syntax.proofs.Parsing.WithinLemmas.{HoldsDeclared, declared-hold}
