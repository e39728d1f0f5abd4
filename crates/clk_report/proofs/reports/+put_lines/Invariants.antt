use Rattle.std.proofs.Common.{length}
use Rattle.clk_report.proofs.reports.+put_lines.Given as goal

abbrev pub decreases-put_lines : goal.decreases-put_lines
decreases-put_lines l = length l.tallies.now
