use Rattle.std.proofs.Common.{◌∙◌, ap}
use Rattle.std.proofs.lemmas.Result.{err_from_is_err_and}
use Rattle.clk_packet.specs.Bytes.{write_failures}
use Rattle.clk_command.proofs.TaskLemmas.{follow-first, follow-second, write-failures}
use Rattle.clk_command.proofs.together.script_then_visits.Goals as goal

pub returns-in_err-replay-clause-wrote : goal.returns-in_err-replay-clause-wrote
returns-in_err-replay-clause-wrote g c =
    let p = err_from_is_err_and c.from_residual.result c.from_residual.ensures.1 in
    rw (p.1, p.2) (follow-first _ _ _ _ _ c.in_err-replay.ensures.wrote)

pub returns-clause-wrote : goal.returns-clause-wrote
returns-clause-wrote g c = follow-second _ _ _ _ _ _ _ _ _ c.in_ok-replay.ensures.wrote c.write.ensures

pub returns-clause-write_failures : goal.returns-clause-write_failures
returns-clause-write_failures g c = write-failures _ _ _ _ _ _ c.write.ensures ∙ ap (write_failures c.write.result) c.in_ok-replay.ensures.write_failures
