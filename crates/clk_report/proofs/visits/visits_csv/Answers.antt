use Rattle.std.proofs.Common.{None, map, arith}
use Rattle.std.proofs.lemmas.Result.{err_from_is_err_and}
use Rattle.clk_packet.proofs.Callers.Bytes.{Wrote-cut, Wrote-then}
use Rattle.clk_report.specs.VisitCsv.{header_text, rows_text, devices_text}
use Rattle.clk_report.proofs.VisitLemmas.{devices_header, one-log, many-logs}
use Rattle.clk_report.proofs.visits.visits_csv.Goals as goal

pub returns-in_err-visits_header-in-len1 : goal.returns-in_err-visits_header-in-len1
returns-in_err-visits_header-in-len1 g c =
    let p = err_from_is_err_and c.from_residual.result c.from_residual.ensures.1 in
    rw (p.1, p.2, one-log g.L.VisitLog.visits c.args.logs.now c.log-item.result (omega arith) c.log-item.is)
    (Wrote-cut _ _ _ _ _ header_text (rows_text None (g.L.VisitLog.visits c.log-item.result)) c.in_err-visits_header-in-len1.ensures)

pub returns-in_ok-visits_header-in-len1 : goal.returns-in_ok-visits_header-in-len1
returns-in_ok-visits_header-in-len1 g c =
    rw (one-log g.L.VisitLog.visits c.args.logs.now c.log-item.result (omega arith) c.log-item.is)
    (Wrote-then _ _ _ _ _ _ _ _ header_text (rows_text None (g.L.VisitLog.visits c.log-item.result)) c.in_ok-visits_header-in-len1.ensures c.rows.ensures)

pub returns-in_err-visits_header-in_default : goal.returns-in_err-visits_header-in_default
returns-in_err-visits_header-in_default g c =
    let p = err_from_is_err_and c.from_residual-in_err-visits_header-in_default.result c.from_residual-in_err-visits_header-in_default.ensures.1 in
    rw (p.1, p.2, many-logs g.L.VisitLog.visits c.args.logs.now (omega arith))
    (Wrote-cut _ _ _ _ _ devices_header (devices_text 0 (map g.L.VisitLog.visits c.args.logs.now)) c.in_err-visits_header-in_default.ensures)

pub returns-in_ok-visits_header-in_default : goal.returns-in_ok-visits_header-in_default
returns-in_ok-visits_header-in_default g c =
    rw (many-logs g.L.VisitLog.visits c.args.logs.now (omega arith))
    (Wrote-then _ _ _ _ _ _ _ _ devices_header (devices_text 0 (map g.L.VisitLog.visits c.args.logs.now)) c.in_ok-visits_header-in_default.ensures c.write_devices.ensures)
