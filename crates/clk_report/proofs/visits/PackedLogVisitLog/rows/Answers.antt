use Rattle.std.proofs.Common.{map}
use Rattle.std.proofs.lemmas.Result.{err_from_is_err_and}
use Rattle.clk_packet.proofs.Callers.Bytes.{Wrote-cut, Wrote-then}
use Rattle.clk_sched.specs.Packed.{unpacked}
use Rattle.clk_report.specs.VisitCsv.{rows_text}
use Rattle.clk_report.proofs.VisitLemmas.{rows-parts}
use Rattle.clk_report.proofs.visits.PackedLogVisitLog.rows.Goals as goal

pub returns-in_err-rows_of : goal.returns-in_err-rows_of
returns-in_err-rows_of g c =
    let p = err_from_is_err_and c.from_residual.result c.from_residual.ensures.1 in
    let device = c.args.device in
    rw (p.1, p.2, rows-parts device c.parts.result.0.now c.parts.result.1.now _ c.parts.ensures)
    (Wrote-cut _ _ _ _ _ (rows_text device (map unpacked c.parts.result.0.now)) (rows_text device (map (λ v. v) c.parts.result.1.now)) c.in_err-rows_of.ensures)

pub returns : goal.returns
returns g c =
    let device = c.args.device in
    rw (rows-parts device c.parts.result.0.now c.parts.result.1.now _ c.parts.ensures)
    (Wrote-then _ _ _ _ _ _ _ _ (rows_text device (map unpacked c.parts.result.0.now)) (rows_text device (map (λ v. v) c.parts.result.1.now)) c.in_ok-rows_of.ensures c.rows_of-2.ensures)
