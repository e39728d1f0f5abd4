use Rattle.std.proofs.lemmas.Result.{err_from_is_err_and}
use Rattle.clk_packet.proofs.Callers.Written.{wrote-whole, wrote-front}
use Rattle.clk_command.proofs.LiveLemmas.{live-writes}
use Rattle.clk_command.proofs.RunningLemmas.{trace-tells}
use Rattle.clk_command.proofs.live.live_trace.Goals as goal

pub returns-in_err-report_accounts-clause-wrote : goal.returns-in_err-report_accounts-clause-wrote
returns-in_err-report_accounts-clause-wrote g c =
    let p = err_from_is_err_and c.from_residual-in_err-report_accounts.result c.from_residual-in_err-report_accounts.ensures.1 in
    let tells = trace-tells _ _ c.in_ok-traces.ensures.sound c.in_ok-traces.ensures.sent in
    let w = live-writes _ c.args.pace _ _ _ _ _ _ _ c.records_of_plans_mean_their_course.ensures tells c.in_ok-outcome.ensures.known c.in_ok-outcome.ensures.ran in
    let cut = rw c.router.ensures.course at c.in_err-report_accounts.ensures.wrote in
    rw (p.1, p.2) (wrote-front _ _ _ _ _ cut.fault (w.0, w.1, tt) cut.front)

pub returns-clause-wrote : goal.returns-clause-wrote
returns-clause-wrote g c =
    let tells = trace-tells _ _ c.in_ok-traces.ensures.sound c.in_ok-traces.ensures.sent in
    let w = live-writes _ c.args.pace _ _ _ _ _ _ _ c.records_of_plans_mean_their_course.ensures tells c.in_ok-outcome.ensures.known c.in_ok-outcome.ensures.ran in
    let all = rw c.router.ensures.course at c.in_ok-report_accounts.ensures.wrote in
    wrote-whole _ _ _ _ _ (w.0, w.1, w.2) all.whole
