use Rattle.std.proofs.Common.{map, rules}
use Rattle.clk_router.specs.Course.{IsPulled}
use Rattle.clk_router.proofs.AccountLemmas.{alike-after, accounts-pulled_on}
use Rattle.clk_router.proofs.counting.CountingRouter.pull.Goals as goal

pub count_pulled-requires-clause-alike : goal.count_pulled-requires-clause-alike
count_pulled-requires-clause-alike c = search (rules, alike-after)

pub invariant_of-self : goal.invariant_of-self
invariant_of-self c =
    let old = c.self.inside.router in
    let new = c.pull.new.self in
    let pulled : IsPulled old new c.args.device c.args.moment c.unwrap-got.result = search rules in
    accounts-pulled_on old new c.self.inside.accounts.items c.count_pulled.new.accounts.items (map (λ n. n.items) c.self.inside.names.items) c.self.invariant c.args.device c.args.moment c.unwrap-got.result pulled
    c.has_account.ensures.accounted c.has_account.ensures.few c.count_pulled.ensures
