use Rattle.std.proofs.Common.{inr}
use Rattle.std.proofs.lemmas.Result.{err_from_is_err_and}
use Rattle.clk_command.proofs.TaskLemmas.{both-first, both-second, write-failures}
use Rattle.clk_command.proofs.over.script_with_visits.Goals as goal

pub returns-in_err-replay-clause-wrote : goal.returns-in_err-replay-clause-wrote
returns-in_err-replay-clause-wrote g c =
    let p = err_from_is_err_and c.from_residual.result c.from_residual.ensures.1 in
    rw (p.1, p.2) (both-first _ _ _ _ _ _ _ c.in_err-replay.ensures.wrote)

pub returns-clause-wrote : goal.returns-clause-wrote
returns-clause-wrote g c = both-second _ _ _ _ _ _ _ _ _ _ _ c.in_ok-replay.ensures.wrote c.write.ensures

pub returns-clause-write_failures : goal.returns-clause-write_failures
returns-clause-write_failures g c = inr (c.in_ok-replay.ensures.write_failures, write-failures _ _ _ _ _ _ c.write.ensures)
