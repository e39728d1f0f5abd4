use Rattle.std.proofs.Common.{refl, sym, subst, ◌∙◌, arith}
use Rattle.clk_router.proofs.PlaceLemmas.{IsSearched, searched, place-low}
use Rattle.clk_router.proofs.senders.place_of.Goals as goal

pub returns-in_err-place-clause-missing : goal.returns-in_err-place-clause-missing
returns-in_err-place-clause-missing c =
    let facts = c.binary_search.ensures in
    let none = subst (λ o. IsSearched c.args.numbers.now c.args.number o) (sym c.ok.ensures.value ∙ c.in_err-place.was) (searched c.args.numbers.now c.args.number c.requires.rising _ facts.bound facts.position) in
    λ e. none.missing refl

pub overflow_cast-result : goal.overflow_cast-result
overflow_cast-result c =
    let facts = c.binary_search.ensures in
    let one = subst (λ o. IsSearched c.args.numbers.now c.args.number o) (sym c.ok.ensures.value ∙ c.in_ok-place.was) (searched c.args.numbers.now c.args.number c.requires.rising _ facts.bound facts.position) in
    let low = place-low c.args.numbers.now c.args.number c.in_ok-place.place c.requires.rising one.found in
    omega (arith, low)

pub returns-clause-found : goal.returns-clause-found
returns-clause-found c =
    let facts = c.binary_search.ensures in
    (subst (λ o. IsSearched c.args.numbers.now c.args.number o) (sym c.ok.ensures.value ∙ c.in_ok-place.was) (searched c.args.numbers.now c.args.number c.requires.rising _ facts.bound facts.position)).found
