use Rattle.std.proofs.Common.{◌≡◌, sym, ap, ◌∙◌, Some, inl, refl}
use Rattle.clk_router.specs.Course.{sender_at}
use Rattle.clickpull_c.proofs.offering.offer.Goals as goal

pub returns : goal.returns
returns c =
    let send = c.offer-outcome in
    let same : Some send.result.0.sender ≡ Some c.args.sender = sym send.ensures.sender ∙ ap (sender_at c.args.router.now.setup) c.from-place.ensures ∙ (rw c.deref.ensures at c.in-Some.ensures.found) in
    record {
      answer = inl (
        refl,
        record {
          packet = send.result.0;
          outcome = send.result.1;
          sender_is = cc;
          length_is = send.ensures.length;
          filled_is = c.offered_for_c.ensures;
          goes_on = send.ensures.goes_on;
        },
      );
    }
