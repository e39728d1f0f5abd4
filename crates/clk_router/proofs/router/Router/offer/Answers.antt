use Rattle.std.proofs.Common.{sym, subst}
use Rattle.clk_router.specs.Course.{Course, CanOffer}
use Rattle.clk_router.proofs.RouterLemmas.{offers-when}
use Rattle.clk_router.proofs.router.Router.offer.Goals as goal

pub offer-outcome-requires-clause-can : goal.offer-outcome-requires-clause-can
offer-outcome-requires-clause-can c =
    let past = c.self.inside.past in
    offers-when past.setup past.events c.self.inside.parts c.self.invariant c.args.place (subst (λ (k : Course). CanOffer k c.args.place) (sym c.self.view_is) c.requires.can)
