use Rattle.std.proofs.Common.{◌≡◌, ◌+◌, ◌<◌, ◌^◌, Some, length, slice_get, sym, ap, ◌∙◌, subst, arith, rules}
use Rattle.std.proofs.lemmas.Bool.Decides.{nat_tests}
use Rattle.std.proofs.lemmas.List.{length-map}
use Rattle.std.proofs.lemmas.Option.{slice_get_read}
use Rattle.clk_tree.specs.PlanParts.{number_of}
use Rattle.clk_router.specs.Course.{Course, CanOffer}
use Rattle.clk_router.specs.inside.Parts.{HasSentFew}
use Rattle.clk_router.proofs.AskLemmas.{offers-yes, offers-sent}
use Rattle.clk_router.proofs.PartsLemmas.{all-there}
use Rattle.clk_router.proofs.router.Router.has_ended.Goals as goal

pub returns-clause-goes_on : goal.returns-clause-goes_on
returns-clause-goes_on c other =
    let past = c.self.inside.past in
    let parts = c.self.inside.parts in
    let s = c.index-sender.result.now in
    let here : slice_get parts.senders.items c.args.place ≡ Some s = search (rules, length-map, slice_get_read) in
    let fits : s.sent < 2 ^ 32 = all-there HasSentFew parts.senders.items c.args.place s c.self.invariant.at.sent here in
    let few : s.sent + 1 < 2 ^ 32 = grind (arith, nat_tests) in
    let numbers = c.are_few.ensures in
    let count : length c.senders.result.now ≡ length past.setup.senders = ap length c.senders.ensures.numbers ∙ length-map c.args.self.now.setup.senders number_of ∙ ap (λ (k : Course). length k.setup.senders) (sym c.self.view_is) in
    subst (λ (k : Course). CanOffer k c.args.place) c.self.view_is (offers-yes past.setup past.events parts c.self.invariant c.args.place s here (omega (arith, numbers, count)) few)

pub returns-clause-ended : goal.returns-clause-ended
returns-clause-ended c last can =
    let past = c.self.inside.past in
    let parts = c.self.inside.parts in
    let s = c.index-sender.result.now in
    let here : slice_get parts.senders.items c.args.place ≡ Some s = search (rules, length-map, slice_get_read) in
    let few = offers-sent past.setup past.events parts c.self.invariant c.args.place s here (subst (λ (k : Course). CanOffer k c.args.place) (sym c.self.view_is) can) in
    grind (arith, nat_tests)
