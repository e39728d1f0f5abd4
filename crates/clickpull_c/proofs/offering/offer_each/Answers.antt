use Rattle.std.proofs.Common.{◌≡◌, ◌<◌, List, length, get_or, set, sym, ap, subst, ◌∙◌, arith}
use Rattle.std.proofs.lemmas.List.{length-set, set-get_or}
use Rattle.std.proofs.lemmas.Option.{slice_get-get_or}
use Rattle.clickpull_c.specs.Answers.{RefusesOffer}
use Rattle.clickpull_c.specs.declared.values.COffer.{COffer}
use Rattle.clk_router.specs.Course.{Course}
use Rattle.clickpull_c.specs.declared.values.COffered.{COffered}
use Rattle.clickpull_c.specs.Calls.{IsOfferedSoFar, refused}
use Rattle.clickpull_c.proofs.Offered.{was-offered, was-refused}
use Rattle.clickpull_c.proofs.SoFar.{offered-more}
use Rattle.clickpull_c.proofs.offering.offer_each.Goals as goal

abbrev nothing : COffer
nothing = record { sender = 0; length = 0 }

pub loop-done-preserved : goal.loop-done-preserved
loop-done-preserved c =
    let l = c.loop-done in
    let low : l.done < length c.args.offers.now = grind arith in
    let made = was-offered _ _ _ _ _ _ _ c.offer-status.ensures.answer c.if-status-ne-OK.false in
    (offered-more c.args.router.now l.router c.offer-status.new.router c.args.offers.now c.args.offered.now l.offered l.done nothing c.offer-status.new.offered l.invariant.1 l.invariant.2 low l.invariant.0 made, length-set l.offered l.done c.offer-status.new.offered ∙ l.invariant.1, l.invariant.2)

pub returns-then-status-ne-OK-clause-ends : goal.returns-then-status-ne-OK-clause-ends
returns-then-status-ne-OK-clause-ends c =
    let l = c.loop-done in
    let offer = get_or c.args.offers.now l.done nothing in
    let low : l.done < length c.args.offers.now = grind arith in
    let why = was-refused _ _ _ _ _ _ _ c.offer-status.ensures.answer c.if-status-ne-OK.true in
    refused offer (slice_get-get_or c.args.offers.now l.done nothing low) (subst (λ r. RefusesOffer r offer.sender offer.length c.offer-status.result) (sym why.1) why.0)

pub returns-then-status-ne-OK-clause-made : goal.returns-then-status-ne-OK-clause-made
returns-then-status-ne-OK-clause-made c =
    let l = c.loop-done in
    let why = was-refused _ _ _ _ _ _ _ c.offer-status.ensures.answer c.if-status-ne-OK.true in
    let same : set l.offered l.done c.offer-status.new.offered ≡ l.offered = ap (set l.offered l.done) why.2 ∙ set-get_or l.offered l.done _ in
    subst (λ (x : Course × List COffered). IsOfferedSoFar c.args.router.now x.0 c.args.offers.now c.args.offered.now x.1 l.done) (sym (λ i. (why.1 i, same i))) l.invariant.0
