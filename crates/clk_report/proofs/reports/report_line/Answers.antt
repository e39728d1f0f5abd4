use Rattle.std.proofs.Common.{◌∙◌, ◌++◌, ℕ, ap, drop, replicate, arith}
use Rattle.std.proofs.lemmas.List.{length-replicate}
use Rattle.clk_report.specs.Counts.{counts_text}
use Rattle.clk_report.proofs.ReportLemmas.{text-alone}
use Rattle.clk_report.proofs.reports.report_line.Goals as goal

pub returns : goal.returns
returns g c =
    let line = counts_text c.args.counts.now in
    let is = c.split_at.ensures.back ∙ text-alone line _ (replicate 512 0) 512 (omega (arith, length-replicate {A = ℕ} 512 0)) (c.put_line-start.ensures.piece ∙ ap (λ counts. counts_text counts ++ drop 512 (replicate 512 0)) c.widened.ensures.counts) in
    rw is at c.write_all.ensures
