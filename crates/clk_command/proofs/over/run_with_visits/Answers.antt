use Rattle.std.proofs.lemmas.Result.{err_from_is_err_and}
use Rattle.clk_command.proofs.TaskLemmas.{both-first, both-second}
use Rattle.clk_command.proofs.over.run_with_visits.Goals as goal

pub returns-in_err-logs-clause-wrote : goal.returns-in_err-logs-clause-wrote
returns-in_err-logs-clause-wrote g c =
    let p = err_from_is_err_and c.from_residual.result c.from_residual.ensures.1 in
    rw (p.1, p.2) (both-first _ _ _ _ _ _ _ c.in_err-logs.ensures.wrote)

pub returns-clause-wrote : goal.returns-clause-wrote
returns-clause-wrote g c = both-second _ _ _ _ _ _ _ _ _ _ _ c.in_ok-logs.ensures.wrote (rw c.deref.ensures.value at c.visits_csv.ensures)
