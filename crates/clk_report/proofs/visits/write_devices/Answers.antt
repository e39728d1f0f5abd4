use Rattle.std.proofs.Common.{Some, drop, map, ◌+◌, ◌∙◌, arith}
use Rattle.std.proofs.lemmas.Result.{err_from_is_err_and}
use Rattle.clk_report.specs.VisitCsv.{devices_text, rows_text}
use Rattle.clk_report.proofs.ReportLemmas.{HasWritten-part, Wrote-part}
use Rattle.clk_report.proofs.VisitLemmas.{devices-more}
use Rattle.clk_report.proofs.visits.write_devices.Goals as goal

pub returns-in_err-rows : goal.returns-in_err-rows
returns-in_err-rows g c =
    let p = err_from_is_err_and c.from_residual.result c.from_residual.ensures.1 in
    let logs = c.args.logs.now in
    let visits = g.L.VisitLog.visits in
    let i = c.loop-device.device in
    let v = c.index-logs-device.result in
    let failed = c.in_err-rows.ensures in
    rw (p.1, p.2) (Wrote-part _ _ _ _ _ _ _ _ (devices_text i (map visits (drop i logs))) (rows_text (Some i) (visits v)) (devices_text (i + 1) (map visits (drop (i + 1) logs))) c.loop-device.invariant.front c.loop-device.invariant.failures
    (devices-more visits logs i v (omega arith) c.index-logs-device.is) failed)

pub loop-device-preserved : goal.loop-device-preserved
loop-device-preserved g c =
    let logs = c.args.logs.now in
    let visits = g.L.VisitLog.visits in
    let i = c.loop-device.device in
    let v = c.index-logs-device.result in
    let wrote = c.in_ok-rows.ensures in
    record {
      front = HasWritten-part _ _ _ _ (devices_text i (map visits (drop i logs))) (rows_text (Some i) (visits v)) (devices_text (i + 1) (map visits (drop (i + 1) logs))) c.loop-device.invariant.front
          (devices-more visits logs i v (omega arith) c.index-logs-device.is) wrote.whole;
      failures = wrote.succeeds ∙ c.loop-device.invariant.failures;
    }
