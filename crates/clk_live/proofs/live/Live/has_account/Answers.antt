use Rattle.std.proofs.Common.{◌∙◌, map, sym, subst}
use Rattle.std.proofs.lemmas.List.{length-map}
use Rattle.clk_inlet.specs.Halves.{taken}
use Rattle.clk_router.specs.Events.{sender_numbers}
use Rattle.clk_tree.specs.PlanParts.{number_of}
use Rattle.clk_live.specs.State.{LiveState}
use Rattle.clk_live.specs.Outcome.{AreOffersOf, AreAllOffered}
use Rattle.clk_live.proofs.Lists.{zip-at}
use Rattle.clk_live.proofs.live.Live.has_account.Goals as goal

pub returns-clause-offered : goal.returns-clause-offered
returns-clause-offered c =
    let i = c.self.inside in
    let kept = c.self.invariant in
    subst (λ (l : LiveState). AreAllOffered l.course (map taken l.outlets)) c.self.view_is
    (zip-at (AreOffersOf i.router.events) (sender_numbers i.router.setup) (map taken i.outlets.items) (length-map i.router.setup.senders number_of ∙ sym kept.places)
    (λ place s items at here. (kept.offers place items s here at).lengths))
