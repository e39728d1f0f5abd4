use Rattle.std.proofs.lemmas.Result.{err_from_is_err_and}
use Rattle.clk_packet.proofs.Callers.Bytes.{Wrote-then}
use Rattle.clk_script.proofs.Texts.PassLemmas.{PassesOn-wrote, PassesOn-failed}
use Rattle.clk_script.proofs.lines.LineBuffer.add.Goals as goal

pub returns-in_err-write : goal.returns-in_err-write
returns-in_err-write g c =
    let p = err_from_is_err_and c.from_residual.result c.from_residual.ensures.1 in
    rw (p.1, p.2) (PassesOn-failed _ _ _ _ _ c.args.self.now c.args.line.now _ c.in_err-write.ensures.wrote)

pub returns : goal.returns
returns g c = PassesOn-wrote _ _ _ _ c.write_all.result c.args.self.now c.args.line.now _ (Wrote-then _ _ _ _ _ _ _ _ _ _ c.in_ok-write.ensures.wrote c.write_all.ensures) c.in_ok-write.ensures.empty
