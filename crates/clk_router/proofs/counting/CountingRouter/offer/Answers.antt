use Rattle.std.proofs.Common.{List, [], ◌∷◌, map}
use Rattle.clk_router.specs.Events.{Event, offered}
use Rattle.clk_router.proofs.AccountLemmas.{alike-after, few-after, accounts-go_on}
use Rattle.clk_router.proofs.counting.CountingRouter.offer.Goals as goal

pub count_offered-requires-clause-alike : goal.count_offered-requires-clause-alike
count_offered-requires-clause-alike c =
    alike-after c.self.inside.router c.offer-outcome.new.self _ c.self.inside.accounts.items c.senders-numbers.result.now c.self.invariant.1 c.offer-outcome.ensures.goes_on c.senders-numbers.ensures.numbers

pub invariant_of-self : goal.invariant_of-self
invariant_of-self c =
    let old = c.self.inside.router in
    let new = c.offer-outcome.new.self in
    let more : List Event = offered c.offer-outcome.result.0 c.offer-outcome.result.1 ∷ [] in
    let goes_on = c.offer-outcome.ensures.goes_on in
    let few = few-after old new more goes_on c.has_account.ensures.accounted c.has_account.ensures.few in
    accounts-go_on old new more c.self.inside.accounts.items c.count_offered.new.accounts.items (map (λ n. n.items) c.self.inside.names.items) c.self.invariant goes_on
    (c.count_offered.ensures old.events old.setup.senders few c.self.invariant.1)
