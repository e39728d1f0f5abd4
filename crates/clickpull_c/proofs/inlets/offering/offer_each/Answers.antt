use Rattle.std.proofs.Common.{ℕ, ◌+◌, ◌<◌, length, get_or, subst, arith}
use Rattle.std.proofs.lemmas.Option.{slice_get-get_or}
use Rattle.clk_inlet.specs.declared.item.Item.{Item}
use Rattle.clickpull_c.specs.Inlets.{AcceptsMany, refused}
use Rattle.clickpull_c.proofs.Batches.{accepts-batch, accepts-more, accepts-next, accepts-same}
use Rattle.clickpull_c.proofs.inlets.offering.offer_each.Goals as goal

abbrev nothing : Item
nothing = record { token = 0; length = 0 }

pub returns-then-done-items-clause-halves : goal.returns-then-done-items-clause-halves
returns-then-done-items-clause-halves c = λ o h. c.offer_many-done.ensures.halves o (c.loop-done.invariant.2 o h)

pub loop-done-preserved : goal.loop-done-preserved
loop-done-preserved c =
    let l = c.loop-done in
    let batch = c.offer_many-done in
    let items = c.args.items.now in
    let done : ℕ = l.done + batch.result in
    let rest = subst (λ r. AcceptsMany l.inlet batch.new.self r batch.result) c.split_at.ensures.back (accepts-batch l.inlet batch.new.self c.split_at.result.1.now batch.result batch.ensures.count batch.ensures.pushed batch.ensures.offered) in
    let so_far = accepts-more c.args.inlet.now l.inlet batch.new.self items l.done batch.result l.invariant.0 rest in
    let low : done < length items = let within = so_far.within in let more = c.if-done-items.false in grind (arith, within, more) in
    let one = c.in-Ok.ensures.accepted in (
      accepts-next c.args.inlet.now batch.new.self c.offer.new.inlet items done nothing low so_far one.pushes one.offers,
      omega (arith, l.invariant.1, batch.ensures.fits, c.offer.ensures.fits),
      λ o h. c.offer.ensures.halves o (batch.ensures.halves o (l.invariant.2 o h)),
    )

pub returns-in-Err-clause-accepted : goal.returns-in-Err-clause-accepted
returns-in-Err-clause-accepted c =
    let l = c.loop-done in
    let batch = c.offer_many-done in
    let rest = subst (λ r. AcceptsMany l.inlet batch.new.self r batch.result) c.split_at.ensures.back (accepts-batch l.inlet batch.new.self c.split_at.result.1.now batch.result batch.ensures.count batch.ensures.pushed batch.ensures.offered) in
    let so_far = accepts-more c.args.inlet.now l.inlet batch.new.self c.args.items.now l.done batch.result l.invariant.0 rest in
    accepts-same c.args.inlet.now batch.new.self c.offer.new.inlet c.args.items.now (l.done + batch.result) c.in-Err.ensures.unchanged.0 so_far

pub returns-in-Err-clause-ends : goal.returns-in-Err-clause-ends
returns-in-Err-clause-ends c =
    let l = c.loop-done in
    let batch = c.offer_many-done in
    let items = c.args.items.now in
    let done : ℕ = l.done + batch.result in
    let left = c.split_at.ensures.back_len in
    let within = batch.ensures.count in
    let low : done < length items = let more = c.if-done-items.false in grind (arith, left, within, more) in
    refused (get_or items done nothing) (slice_get-get_or items done nothing low) c.in-Err.ensures.refused

pub returns-in-Err-clause-fits : goal.returns-in-Err-clause-fits
returns-in-Err-clause-fits c = omega (arith, c.loop-done.invariant.1, c.offer_many-done.ensures.fits, c.in-Err.ensures.unchanged.1)

pub returns-in-Err-clause-halves : goal.returns-in-Err-clause-halves
returns-in-Err-clause-halves c = λ o h. c.offer.ensures.halves o (c.offer_many-done.ensures.halves o (c.loop-done.invariant.2 o h))
