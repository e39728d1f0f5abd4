use Rattle.std.proofs.Common.{ap, map, sym, ◌∙◌}
use Rattle.clk_router.proofs.AccountLemmas.{given, accounts-pulled, given-none}
use Rattle.clk_router.proofs.accounts.count_pulled.Goals as goal

pub returns-in-Some : goal.returns-in-Some
returns-in-Some c =
    let counted = c.count_emitted.ensures ∙ ap (λ o. map (given o) c.args.accounts.now.items) (sym c.in-Some.is) in
    λ events specs device moment visits few is are. counted ∙ ap (map (given c.args.got)) are ∙ accounts-pulled events device moment visits c.args.got is specs few

pub returns-in-None : goal.returns-in-None
returns-in-None c =
    let counted = sym (given-none c.args.accounts.now.items) ∙ ap (λ o. map (given o) c.args.accounts.now.items) (sym c.in-None.is) in
    λ events specs device moment visits few is are. counted ∙ ap (map (given c.args.got)) are ∙ accounts-pulled events device moment visits c.args.got is specs few
