use Rattle.std.proofs.Common.{◌+◌, map, drop, subst}
use Rattle.std.proofs.lemmas.Result.{err_from_is_err_and}
use Rattle.clk_syntax.specs.Source.{kept}
use Rattle.clk_syntax.specs.inside.Naming.{Judges}
use Rattle.clk_syntax.proofs.Callers.Lists.{drop-item}
use Rattle.clk_syntax.proofs.naming.judge_all.Goals as goal

pub returns-in_err-judge : goal.returns-in_err-judge
returns-in_err-judge c =
    let text = c.args.text.now in
    let ds = c.args.declarations.now in
    let i = c.loop-declaration.declaration-index in
    let next = drop-item ds i c.declaration-item.result c.loop-declaration-test.true c.declaration-item.is in
    let p = err_from_is_err_and c.from_residual-in_err-judge.result c.from_residual-in_err-judge.ensures.1 in
    rw (p.1, p.2)
    (c.in_err-judge.ensures (map kept ds) (map kept (drop (i + 1) ds)) (subst (λ xs. Judges text (map kept ds) (map kept xs) c.loop-declaration.judged) next c.loop-declaration.invariant.judges))
