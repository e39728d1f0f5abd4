use Rattle.std.proofs.Common.{ap, ◌∙◌}
use Rattle.clk_router.specs.Events.{logs_of}
use Rattle.std.proofs.lemmas.Result.{err_from_is_err_and}
use Rattle.clk_packet.proofs.Callers.Written.{wrote-whole, wrote-front, wrote-nothing}
use Rattle.clk_script.proofs.run.run_script_logged.Goals as goal

pub returns-in_err-write_answer-clause-wrote : goal.returns-in_err-write_answer-clause-wrote
returns-in_err-write_answer-clause-wrote g c =
    let p = err_from_is_err_and c.from_residual-in_err-write_answer.result c.from_residual-in_err-write_answer.ensures.1 in
    let is = c.in_ok-answer.ensures.answer in
    rw (p.1, p.2) (wrote-front _ _ _ _ _ c.in_err-write_answer.ensures.fault (_, tt, is.means _ _ is.answers.writes) c.in_err-write_answer.ensures.front)

pub returns-in_err-held-clause-wrote : goal.returns-in_err-held-clause-wrote
returns-in_err-held-clause-wrote g c =
    let p = err_from_is_err_and c.from_residual-in_err-held.result c.from_residual-in_err-held.ensures.1 in
    rw (p.1, p.2) (wrote-nothing _ _ _ (λ e. cc))

pub returns-clause-wrote : goal.returns-clause-wrote
returns-clause-wrote g c =
    let is = c.in_ok-answer.ensures.answer in
    wrote-whole _ _ _ _ _ (_, c.new.ensures ∙ ap (λ s. logs_of s c.in_ok-answer.answer.script_router.router.events) is.answers.setup_is, is.means _ _ is.answers.writes) c.in_ok-write_answer.ensures.whole
