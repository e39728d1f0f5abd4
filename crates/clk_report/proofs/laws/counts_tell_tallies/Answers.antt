use Rattle.clk_report.proofs.Callers.Counts.{counts-tell}
use Rattle.clk_report.proofs.laws.counts_tell_tallies.Goals as goal

pub returns : goal.returns
returns c = counts-tell
