use Rattle.std.proofs.lemmas.List.{take_rest}
use Rattle.std.proofs.lemmas.Result.{err_from_is_err_and}
use Rattle.clk_script.proofs.Carrying.RowLemmas.{closings-first}
use Rattle.clk_script.proofs.Texts.PassLemmas.{PassesOn-then, PassesOn-cut}
use Rattle.clk_script.proofs.writing.+write_closings.Goals as goal

pub returns-in_err-write_departures : goal.returns-in_err-write_departures
returns-in_err-write_departures g t c =
    let p = err_from_is_err_and c.from_residual.result c.from_residual.ensures.1 in
    let first = closings-first c.args.several c.args.device c.args.closings.now c.departures-item.result c.in-len1-up.len_at_least c.departures-item.is in
    let failed = rw c.deref.ensures.value at c.in_err-write_departures.ensures in
    rw (p.1, p.2, first) (PassesOn-cut _ _ _ _ _ _ _ _ _ failed)

pub returns : goal.returns
returns g t c =
    let first = closings-first c.args.several c.args.device c.args.closings.now c.departures-item.result c.in-len1-up.len_at_least c.departures-item.is in
    let passed = rw c.deref.ensures.value at c.in_ok-write_departures.ensures in
    let rest = rw (take_rest c.args.closings.now 1) at c.write_closings.ensures in
    rw first (PassesOn-then _ _ _ _ _ _ _ _ _ _ _ _ _ passed rest)
