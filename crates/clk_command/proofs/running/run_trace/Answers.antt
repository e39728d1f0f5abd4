use Rattle.std.proofs.Common.{inl}
use Rattle.std.proofs.lemmas.Result.{err_from_is_err_and}
use Rattle.clk_packet.proofs.Callers.Written.{wrote-whole, wrote-front}
use Rattle.clk_command.proofs.RunningLemmas.{accounted, run-writes, trace-tells}
use Rattle.clk_command.proofs.running.run_trace.Goals as goal

pub returns-in_err-report_tallies-clause-wrote : goal.returns-in_err-report_tallies-clause-wrote
returns-in_err-report_tallies-clause-wrote g c =
    let p = err_from_is_err_and c.from_residual-in_err-report_tallies.result c.from_residual-in_err-report_tallies.ensures.1 in
    let run = c.in_ok-outcome.ensures.outcome in
    let tells = trace-tells _ _ c.in_ok-traces.ensures.sound c.in_ok-traces.ensures.sent in
    let failed = rw c.deref.ensures.value at c.in_err-report_tallies.ensures.report in
    let cut = failed _ (accounted _ _ _ _ _ _ c.runs_account_for_emitted.ensures run) in
    rw (p.1, p.2) (wrote-front _ _ _ _ _ cut.fault (run.logs, tt, run-writes _ c.args.pace _ c.in_ok-traces.traces run.logs run.packets _ tells c.in_ok-outcome.ensures.known run.is) cut.front)

pub returns-in_err-report_tallies-clause-fault : goal.returns-in_err-report_tallies-clause-fault
returns-in_err-report_tallies-clause-fault g c =
    let p = err_from_is_err_and c.from_residual-in_err-report_tallies.result c.from_residual-in_err-report_tallies.ensures.1 in rw (p.1, p.2) (inl c.in_err-report_tallies.ensures.fault)

pub returns-in_err-report_tallies-clause-read_failures : goal.returns-in_err-report_tallies-clause-read_failures
returns-in_err-report_tallies-clause-read_failures g c =
    let p = err_from_is_err_and c.from_residual-in_err-report_tallies.result c.from_residual-in_err-report_tallies.ensures.1 in
    rw (p.1, p.2, c.in_err-report_tallies.ensures.fault) c.in_ok-traces.ensures.failures

pub returns-in_err-report_tallies-clause-write_failures : goal.returns-in_err-report_tallies-clause-write_failures
returns-in_err-report_tallies-clause-write_failures g c =
    let p = err_from_is_err_and c.from_residual-in_err-report_tallies.result c.from_residual-in_err-report_tallies.ensures.1 in
    let failed = c.in_err-report_tallies.ensures.fault in
    let more = rw failed at c.in_err-report_tallies.ensures.failures in
    rw (p.1, p.2, failed) more

pub returns-clause-wrote : goal.returns-clause-wrote
returns-clause-wrote g c =
    let run = c.in_ok-outcome.ensures.outcome in
    let tells = trace-tells _ _ c.in_ok-traces.ensures.sound c.in_ok-traces.ensures.sent in
    let wrote = rw c.deref.ensures.value at c.in_ok-report_tallies.ensures.report in
    let all = wrote _ (accounted _ _ _ _ _ _ c.runs_account_for_emitted.ensures run) in
    wrote-whole _ _ _ _ _ (run.logs, run.kept, run-writes _ c.args.pace _ c.in_ok-traces.traces run.logs run.packets _ tells c.in_ok-outcome.ensures.known run.is) all.whole

pub returns-clause-write_failures : goal.returns-clause-write_failures
returns-clause-write_failures g c = c.in_ok-report_tallies.ensures.failures
