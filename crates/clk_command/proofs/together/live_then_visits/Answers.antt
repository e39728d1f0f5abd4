use Rattle.std.proofs.Common.{[], append-nil, refl, inl, inr, arith}
use Rattle.std.proofs.lemmas.Result.{err_from_is_err_and}
use Rattle.clk_packet.proofs.Callers.Written.{wrote-front}
use Rattle.clk_command.proofs.LiveLemmas.{between-cut, follow-last, front-none, front-whole}
use Rattle.clk_command.proofs.TaskLemmas.{front-longer}
use Rattle.clk_command.proofs.together.live_then_visits.Goals as goal

pub returns-in_err-report_accounts-clause-wrote : goal.returns-in_err-report_accounts-clause-wrote
returns-in_err-report_accounts-clause-wrote g c =
    let p = err_from_is_err_and c.from_residual-in_err-report_accounts.result c.from_residual-in_err-report_accounts.ensures.1 in
    let cut = rw c.router.ensures.course at c.in_err-report_accounts.ensures.wrote in
    rw (p.1, p.2) (wrote-front _ _ _ _ _ cut.fault (_, record { answer = _; visits = _; means = (c.in_ok-run.ensures.lives, between-cut _ _ _ _ _ _ _ (front-none _ _) (inl refl) cut.front); together = refl }) (front-longer _ _ _ _ cut.front))

pub returns-in_err-write_all-clause-wrote : goal.returns-in_err-write_all-clause-wrote
returns-in_err-write_all-clause-wrote g c =
    let p = err_from_is_err_and c.from_residual-in_err-write_all.result c.from_residual-in_err-write_all.ensures.1 in
    let all = rw c.router.ensures.course at c.in_ok-report_accounts.ensures.wrote in
    let cut = rw c.deref.ensures.value at c.in_err-write_all.ensures in
    rw (p.1, p.2) (wrote-front _ _ _ _ _ cut.fault (_, record { answer = _; visits = _; means = (c.in_ok-run.ensures.lives, between-cut _ _ _ _ _ _ _ cut.front (inr ([], rw (append-nil _) all.whole)) (front-whole _ _ _ all.whole)); together = refl }) (front-longer _ _ _ _ (front-whole _ _ _ all.whole)))

pub returns-in_err-report_accounts-clause-fault : goal.returns-in_err-report_accounts-clause-fault
returns-in_err-report_accounts-clause-fault g c =
    let p = err_from_is_err_and c.from_residual-in_err-report_accounts.result c.from_residual-in_err-report_accounts.ensures.1 in
    rw (p.1, p.2) (inl (inl c.in_err-report_accounts.ensures.wrote.fault))

pub returns-in_err-report_accounts-clause-read_failures : goal.returns-in_err-report_accounts-clause-read_failures
returns-in_err-report_accounts-clause-read_failures g c =
    let p = err_from_is_err_and c.from_residual-in_err-report_accounts.result c.from_residual-in_err-report_accounts.ensures.1 in
    rw (p.1, p.2, c.in_err-report_accounts.ensures.wrote.fault) c.in_ok-run.ensures.read_failures

pub returns-in_err-report_accounts-clause-write_failures : goal.returns-in_err-report_accounts-clause-write_failures
returns-in_err-report_accounts-clause-write_failures g c =
    let p = err_from_is_err_and c.from_residual-in_err-report_accounts.result c.from_residual-in_err-report_accounts.ensures.1 in
    let more = c.in_err-report_accounts.ensures.wrote.fails in
    rw (p.1, p.2, c.in_err-report_accounts.ensures.wrote.fault) (omega (arith, more))

pub returns-in_err-report_accounts-clause-write_failed : goal.returns-in_err-report_accounts-clause-write_failed
returns-in_err-report_accounts-clause-write_failed g c =
    let p = err_from_is_err_and c.from_residual-in_err-report_accounts.result c.from_residual-in_err-report_accounts.ensures.1 in
    rw (p.1, p.2, c.in_err-report_accounts.ensures.wrote.fault) (inr c.in_err-report_accounts.ensures.wrote.fails)

pub returns-in_err-write_all-clause-unrecorded : goal.returns-in_err-write_all-clause-unrecorded
returns-in_err-write_all-clause-unrecorded g c =
    let p = err_from_is_err_and c.from_residual-in_err-write_all.result c.from_residual-in_err-write_all.ensures.1 in
    rw (p.1, p.2) (λ other. absurd (other c.in_err-write_all.ensures.fault))

pub returns-in_err-write_all-clause-fault : goal.returns-in_err-write_all-clause-fault
returns-in_err-write_all-clause-fault g c =
    let p = err_from_is_err_and c.from_residual-in_err-write_all.result c.from_residual-in_err-write_all.ensures.1 in
    rw (p.1, p.2) (inl (inl c.in_err-write_all.ensures.fault))

pub returns-in_err-write_all-clause-read_failures : goal.returns-in_err-write_all-clause-read_failures
returns-in_err-write_all-clause-read_failures g c =
    let p = err_from_is_err_and c.from_residual-in_err-write_all.result c.from_residual-in_err-write_all.ensures.1 in
    rw (p.1, p.2, c.in_err-write_all.ensures.fault) c.in_ok-run.ensures.read_failures

pub returns-in_err-write_all-clause-write_failures : goal.returns-in_err-write_all-clause-write_failures
returns-in_err-write_all-clause-write_failures g c =
    let p = err_from_is_err_and c.from_residual-in_err-write_all.result c.from_residual-in_err-write_all.ensures.1 in
    let same = c.in_ok-report_accounts.ensures.wrote.succeeds in
    let more = c.in_err-write_all.ensures.fails in
    rw (p.1, p.2, c.in_err-write_all.ensures.fault) (omega (arith, same, more))

pub returns-clause-wrote : goal.returns-clause-wrote
returns-clause-wrote g c =
    let all = rw c.router.ensures.course at c.in_ok-report_accounts.ensures.wrote in
    let script = rw c.deref.ensures.value at c.in_ok-write_all.ensures.whole in
    follow-last _ _ _ _ _ _ _ _ _ _ _ _ _ c.in_ok-run.ensures.lives script all.whole c.write.ensures
