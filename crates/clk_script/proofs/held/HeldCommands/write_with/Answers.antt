use Rattle.std.proofs.lemmas.Result.{err_from_is_err_and}
use Rattle.clk_packet.proofs.Callers.Bytes.{Wrote-then, Wrote-cut}
use Rattle.clk_script.proofs.held.HeldCommands.write_with.Goals as goal

pub returns-in_err-write : goal.returns-in_err-write
returns-in_err-write g c =
    let p = err_from_is_err_and c.from_residual.result c.from_residual.ensures.1 in
    rw (p.1, p.2) (Wrote-cut _ _ _ _ _ c.args.self.now c.args.line.now c.in_err-write.ensures.wrote)

pub returns : goal.returns
returns g c = Wrote-then _ _ _ _ _ _ _ _ _ _ c.in_ok-write.ensures.wrote c.write_all.ensures
