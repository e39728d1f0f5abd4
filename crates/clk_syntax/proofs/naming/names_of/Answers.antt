use Rattle.std.proofs.Common.{◌+◌, ◌≤◌, length, map, drop, subst, arith}
use Rattle.std.specs.List.{AllByRecursion}
use Rattle.std.proofs.lemmas.List.{drop_all}
use Rattle.std.proofs.lemmas.Result.{err_from_is_err_and}
use Rattle.clk_syntax.specs.Source.{kept, elements}
use Rattle.clk_syntax.specs.declared.limits.TheConstants.{MAX_TREE_BYTES}
use Rattle.clk_syntax.specs.inside.Naming.{Declares}
use Rattle.clk_syntax.specs.Within.{IsDeclaredWithin, words_in}
use Rattle.clk_syntax.proofs.Callers.Lists.{drop-item}
use Rattle.clk_syntax.proofs.Elements.NameLemmas.{Declares-all}
use Rattle.clk_syntax.proofs.naming.names_of.Goals as goal

pub returns-in_err-declare : goal.returns-in_err-declare
returns-in_err-declare c =
    let text = c.args.text.now in
    let ds = c.args.declarations.now in
    let i = c.loop-declaration.declaration-index in
    let next = drop-item ds i c.declaration-item.result c.loop-declaration-test.true c.declaration-item.is in
    let p = err_from_is_err_and c.from_residual-in_err-declare.result c.from_residual-in_err-declare.ensures.1 in
    rw (p.1, p.2)
    (c.in_err-declare.ensures.declared (elements text (map kept ds)) (elements text (map kept (drop (i + 1) ds)))
    (subst (λ xs. Declares (elements text (map kept ds)) (elements text (map kept xs)) c.loop-declaration.names) next c.loop-declaration.invariant.declares))

pub loop-declaration-preserved : goal.loop-declaration-preserved
loop-declaration-preserved c =
    let text = c.args.text.now in
    let ds = c.args.declarations.now in
    let i = c.loop-declaration.declaration-index in
    let inv = c.loop-declaration.invariant in
    let next = drop-item ds i c.declaration-item.result c.loop-declaration-test.true c.declaration-item.is in
    let within = subst (λ xs. AllByRecursion (IsDeclaredWithin (length text)) (map kept xs)) next inv.within in
    let few = subst (λ xs. c.loop-declaration.names.count + words_in (map kept xs) ≤ MAX_TREE_BYTES) next inv.few in
    let counted = c.in_ok-declare.ensures.counted in
    record {
      within = within.1;
      few = omega (arith, few, counted);
      slots = c.in_ok-declare.ensures.slots;
      declares =
          c.in_ok-declare.ensures.declared (elements text (map kept ds)) (elements text (map kept (drop (i + 1) ds)))
          (subst (λ xs. Declares (elements text (map kept ds)) (elements text (map kept xs)) c.loop-declaration.names) next inv.declares);
    }

pub returns : goal.returns
returns c =
    let all = elements c.args.text.now (map kept c.args.declarations.now) in
    Declares-all all c.loop-declaration.names
    (subst (λ xs. Declares all (elements c.args.text.now (map kept xs)) c.loop-declaration.names) (drop_all c.loop-declaration.declaration-index c.args.declarations.now c.loop-declaration-test.false) c.loop-declaration.invariant.declares)
