-- Texts that are written part by part.
pub use Rattle.clk_report.proofs.ReportLemmas.{HasWritten-part, Wrote-part}
