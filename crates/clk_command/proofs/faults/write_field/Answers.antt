use Rattle.std.proofs.Common.{codes, decimal}
use Rattle.std.proofs.lemmas.Result.{err_from_is_err_and}
use Rattle.clk_packet.proofs.Callers.Bytes.{Wrote-then, Wrote-cut}
use Rattle.clk_command.proofs.faults.write_field.Goals as goal

pub returns-in_err-write_all : goal.returns-in_err-write_all
returns-in_err-write_all g c =
    let p = err_from_is_err_and c.from_residual.result c.from_residual.ensures.1 in
    rw (p.1, p.2) (Wrote-cut _ _ _ _ _ (codes " ") (decimal c.args.field) c.in_err-write_all.ensures)

pub returns : goal.returns
returns g c = Wrote-then _ _ _ _ _ _ _ _ _ _ c.in_ok-write_all.ensures c.write_number.ensures
