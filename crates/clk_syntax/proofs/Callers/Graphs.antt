-- Ports and ways, as the checks see them.
pub use Rattle.clk_syntax.proofs.Graphs.FailureLemmas.{bad-port-first, wrong-kind-first}
pub use Rattle.clk_syntax.proofs.Graphs.PortLemmas.{used_again}
