use Rattle.std.proofs.Common.{map, ◌∙◌, arith}
use Rattle.std.proofs.lemmas.Result.{err_from_is_err_and}
use Rattle.clk_report.specs.VisitCsv.{rows_text}
use Rattle.clk_report.proofs.ReportLemmas.{HasWritten-part, Wrote-part, text-alone}
use Rattle.clk_report.proofs.VisitLemmas.{rows-split}
use Rattle.clk_report.proofs.visits.write_rows.Goals as goal

pub returns-in_err-write_all : goal.returns-in_err-write_all
returns-in_err-write_all g c =
    let p = err_from_is_err_and c.from_residual.result c.from_residual.ensures.1 in
    let device = c.args.device in
    let shown = g.V.Shown.shown in
    let part = c.split_at.result.0.now in
    let after = c.split_at.result.1.now in
    let is = c.split_at-in-loop-rest.ensures.back ∙ text-alone (rows_text device (map shown part)) _ c.loop-rest.rows g.row.N (omega arith) c.put_rows-start.ensures.piece in
    let split = rows-split device shown c.loop-rest.rest.now part after c.min.result c.split_at.ensures.front c.split_at.ensures.back in
    let failed = rw is at c.in_err-write_all.ensures in
    rw (p.1, p.2) (Wrote-part _ _ _ _ _ _ _ _ (rows_text device (map shown c.loop-rest.rest.now)) (rows_text device (map shown part)) (rows_text device (map shown after)) c.loop-rest.invariant.front c.loop-rest.invariant.failures split failed)

pub loop-rest-preserved : goal.loop-rest-preserved
loop-rest-preserved g c =
    let device = c.args.device in
    let shown = g.V.Shown.shown in
    let part = c.split_at.result.0.now in
    let after = c.split_at.result.1.now in
    let is = c.split_at-in-loop-rest.ensures.back ∙ text-alone (rows_text device (map shown part)) _ c.loop-rest.rows g.row.N (omega arith) c.put_rows-start.ensures.piece in
    let split = rows-split device shown c.loop-rest.rest.now part after c.min.result c.split_at.ensures.front c.split_at.ensures.back in
    let wrote = rw is at c.in_ok-write_all.ensures in
    record {
      front = HasWritten-part _ _ _ _ (rows_text device (map shown c.loop-rest.rest.now)) (rows_text device (map shown part)) (rows_text device (map shown after)) c.loop-rest.invariant.front split wrote.whole;
      failures = wrote.succeeds ∙ c.loop-rest.invariant.failures;
    }
