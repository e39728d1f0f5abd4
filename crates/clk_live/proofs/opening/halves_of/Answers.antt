use Rattle.std.proofs.Common.{◌≡◌, ◌<◌, get_or, [], ◌∷◌, length, ap, ◌∙◌, arith}
use Rattle.std.proofs.lemmas.List.{length-append}
use Rattle.std.proofs.lemmas.Option.{slice_get-get_or}
use Rattle.clk_inlet.specs.declared.inlet.Inlet.{Inlet}
use Rattle.clk_inlet.specs.declared.outlet.Outlet.{Outlet}
use Rattle.clk_inlet.specs.Halves.{pushed, popped, fits, AreHalves}
use Rattle.clk_live.proofs.Lists.{zip-push}
use Rattle.clk_live.proofs.Openings.{place-low, all-pushed}
use Rattle.clk_live.proofs.opening.halves_of.Goals as goal

pub loop-sender-preserved : goal.loop-sender-preserved
loop-sender-preserved c =
    let ns = c.args.senders.now in
    let l = c.loop-sender in
    let i = l._sender-index in
    let inv = l.invariant in
    let low : i < length ns = (let test = c.loop-sender-test.true in let last = l.auto._sender-index-end in omega (arith, test, last)) in
    let short = c.type_inv.senders c.loop-sender._sender-index in
    let above = place-low ns i (get_or ns i 0) c.requires.rising (slice_get-get_or ns i 0 low) in
    let inlet = c.in_ok-inlet.inlet in
    let outlet = c.in_ok-inlet.outlet in
    let longer = length-append l.outlets.items (outlet ∷ []) in (
      omega (arith, short, above),
      ap length c.in_ok-push-2.ensures.items ∙ omega (arith, longer, inv.1),
      rw (c.in_ok-push.ensures.items, c.in_ok-push-2.ensures.items) (zip-push AreHalves l.inlets.items l.outlets.items inlet outlet inv.2 c.in_ok-inlet.ensures.halves),
      rw c.in_ok-push.ensures.items (all-pushed (λ (i : Inlet). (pushed i ≡ []) × (fits i ≡ c.args.room)) l.inlets.items inlet inv.3 (c.in_ok-inlet.ensures.empty.0, c.in_ok-inlet.ensures.fits)),
      rw c.in_ok-push-2.ensures.items (all-pushed (λ (o : Outlet). popped o ≡ []) l.outlets.items outlet inv.4 c.in_ok-inlet.ensures.empty.1),
    )
