-- What is declared, by name and class.
pub use Rattle.clk_syntax.proofs.Elements.WidthLemmas.{width-in}
pub use Rattle.clk_syntax.proofs.Elements.JudgeLemmas.{among}
pub use Rattle.clk_syntax.proofs.Elements.UnknownLemmas.{unknown_in, unknown_class-in}
