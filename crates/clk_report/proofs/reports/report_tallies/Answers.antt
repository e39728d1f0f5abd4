use Rattle.std.proofs.Common.{arith}
use Rattle.clk_report.proofs.ReportLemmas.{lines-are, all-account}
use Rattle.clk_report.proofs.reports.report_tallies.Goals as goal

pub returns-clause-report : goal.returns-clause-report
returns-clause-report g c emitted account =
    let wrote = c.write_lines.ensures.lines emitted (λ s within. absurd (omega (arith, within))) (all-account emitted c.args.tallies.now account) in
    rw (lines-are emitted c.args.tallies.now) at wrote
