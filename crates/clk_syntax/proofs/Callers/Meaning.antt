-- What a text says as a whole.
pub use Rattle.clk_syntax.proofs.Meaning.ReadLemmas.{can-be-read}
pub use Rattle.clk_syntax.proofs.Meaning.FaultLemmas.{right-text, faultless-by}
pub use Rattle.clk_syntax.proofs.Meaning.MemoryLemmas.{text-no-memory}
pub use Rattle.clk_syntax.proofs.Meaning.OneFault.{one-fault, not-faultless, same-statements, says}
