use Rattle.std.proofs.Common.{subst}
use Rattle.std.proofs.lemmas.Result.{err_from_is_err_and}
use Rattle.clk_ruled.specs.Settle.{IsFaultOfSettle}
use Rattle.clk_drain.specs.Line.{LineLists}
use Rattle.clk_drain.proofs.line.Line.settle.Goals as goal

pub returns-in_err-settled-clause-fault : goal.returns-in_err-settled-clause-fault
returns-in_err-settled-clause-fault c =
    let p = err_from_is_err_and c.from_residual.result c.from_residual.ensures.1 in
    rw (p.1, p.2) (subst (λ (l : LineLists). IsFaultOfSettle l.tap l.closed l.leaf c.in_err-settled.field-0.0) c.self.view_is c.in_err-settled.ensures.fault)
