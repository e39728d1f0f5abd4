use Rattle.std.proofs.Common.{◌<◌, length, take, slice_set, sym, ◌∙◌, subst, arith}
use Rattle.clickpull_c.specs.Filled.{IsFilled}
use Rattle.clickpull_c.proofs.Fills.{fill-more, next-of}
use Rattle.clickpull_c.proofs.live.reclaiming.reclaim.Goals as goal

pub loop-given-preserved : goal.loop-given-preserved
loop-given-preserved c =
    let l = c.loop-given in
    let tokens = c.give_up.new.router.reclaimed in
    let next = next-of tokens l.given c.in-Some.token c.take.new.self (sym l.invariant.rest ∙ c.in-Some.ensures.token) in
    let low : l.given < length c.args.tokens.now = (let test = c.loop-given-test.true in let same = l.auto.tokens in omega (arith, test, same)) in
    record {
      given_up = l.invariant.given_up;
      inlets = l.invariant.inlets;
      within = (omega (arith, next.low), omega (arith, low));
      are_filled = subst (λ f. IsFilled c.args.tokens.now (slice_set l.tokens l.given c.in-Some.token) f) (sym next.front) (fill-more c.args.tokens.now l.tokens (take l.given tokens) c.in-Some.token l.given next.many low l.invariant.are_filled);
      rest = sym next.left;
    }
