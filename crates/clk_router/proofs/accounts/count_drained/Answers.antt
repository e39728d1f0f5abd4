use Rattle.std.proofs.Common.{◌≡◌, [], drop, map, sym, ap, ◌∙◌, rules}
use Rattle.std.proofs.lemmas.List.{drop_all}
use Rattle.clk_sched.specs.Departures.{departures_in}
use Rattle.clk_router.proofs.AccountLemmas.{departed, accounts-drained, departed-on, departed-none, emitted-senders}
use Rattle.clk_router.proofs.accounts.count_drained.Goals as goal

pub loop-departure-preserved : goal.loop-departure-preserved
loop-departure-preserved c = search (rules, departed-on, emitted-senders)

pub returns-clause-counted : goal.returns-clause-counted
returns-clause-counted c =
    let all = c.args.departures.now in
    let i = c.loop-departure.departure-index in
    let none : drop i all ≡ [] = drop_all i all (let done = c.loop-departure-test.false in done) in
    let counted : c.loop-departure.accounts.items ≡ map (departed all) c.args.accounts.now.items =
    sym (ap (λ ds. map (departed ds) c.loop-departure.accounts.items) none ∙ departed-none c.loop-departure.accounts.items) ∙ c.loop-departure.invariant.0
    in
    λ events specs device moment pulls few are were. counted ∙ ap (λ ds. map (departed ds) c.args.accounts.now.items) are ∙ ap (map (departed (departures_in pulls))) were ∙ accounts-drained events device moment pulls specs few
