use Rattle.std.proofs.lemmas.Result.{err_from_is_err_and}
use Rattle.clk_script.proofs.Carrying.HeldLemmas.{held-all}
use Rattle.clk_script.proofs.replay.replay_device.Goals as goal

pub returns-in_err-visit_rows-clause-wrote : goal.returns-in_err-visit_rows-clause-wrote
returns-in_err-visit_rows-clause-wrote g c =
    let p = err_from_is_err_and c.from_residual-in_err-visit_rows.result c.from_residual-in_err-visit_rows.ensures.1 in
    rw (p.1, p.2) (held-all c.args.column _ _ _ _ _ _ _ c.requires.none c.in_ok-replay_commands.ensures.visits (rw c.deref.ensures.value at c.in_err-visit_rows.ensures))
