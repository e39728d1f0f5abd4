use Rattle.std.proofs.Common.{refl, arith}
use Rattle.std.proofs.lemmas.Result.{err_from_is_err_and}
use Rattle.clk_script.proofs.Carrying.CarriedLemmas.{carried-none, carried-next, carried-row, carried-all, carried-failed}
use Rattle.clk_script.proofs.replay.replay_rows.Goals as goal

pub loop-row-init : goal.loop-row-init
loop-row-init g c = carried-none c.args.device c.args.column c.args.again.now _ tt _ refl c.has_happened.ensures

pub replay_row-requires : goal.replay_row-requires
replay_row-requires g c =
    let next = carried-next _ _ _ _ _ _ _ _ c.loop-row.invariant c.requires.fresh c.requires.keeps c.requires.few c.requires.to_do c.row-item.result (omega arith) c.row-item.is in
    record { few = next.few; keeps = next.keeps; to_do = next.to_do }

pub returns-in_err-replay_row : goal.returns-in_err-replay_row
returns-in_err-replay_row g c =
    let p = err_from_is_err_and c.from_residual.result c.from_residual.ensures.1 in
    rw (p.1, p.2) (carried-failed _ _ _ _ _ _ _ (carried-row _ _ _ _ _ _ _ _ c.loop-row.invariant _ c.row-item.result _ _ (omega arith) c.row-item.is c.in_err-replay_row.ensures))

pub loop-row-preserved : goal.loop-row-preserved
loop-row-preserved g c = carried-row _ _ _ _ _ _ _ _ c.loop-row.invariant _ c.row-item.result _ _ (omega arith) c.row-item.is c.in_ok-replay_row.ensures

pub returns : goal.returns
returns g c = carried-all _ _ _ _ _ _ _ _ c.loop-row.invariant (omega arith)
