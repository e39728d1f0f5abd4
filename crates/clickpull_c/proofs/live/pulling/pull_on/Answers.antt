use Rattle.std.proofs.Common.{◌<◌, length, refl, subst, arith}
use Rattle.clk_router.specs.Course.{Course, CanPull}
use Rattle.clk_live.specs.State.{seen}
use Rattle.clk_live.specs.Pulling.{at_end}
use Rattle.clickpull_c.proofs.LiveLoops.{pulled-none, pulled-more}
use Rattle.clickpull_c.proofs.live.pulling.pull_on.Goals as goal

pub loop-given-init : goal.loop-given-init
loop-given-init c = (pulled-none c.args.device c.args.moment c.args.live.now c.args.packets.now, c.requires.can)

pub returns-then-not-can_pull : goal.returns-then-not-can_pull
returns-then-not-can_pull c =
    let l = c.loop-given in
    let low : l.given < length c.args.packets.now = (let test = c.loop-given-test.true in let same = l.auto.packets in omega (arith, test, same)) in
    let so_far = pulled-more c.args.device c.args.moment c.args.live.now l.live c.pull.new.self c.args.packets.now l.packets l.given c.in-Some.one c.emitted_for_c.result low l.invariant.0 c.in-Some.ensures.pulled c.emitted_for_c.ensures c.pull.ensures.unchanged in
    record {
      slots = so_far.slots;
      gave = so_far.gave;
      many = so_far.many;
      are_pulled = record {
        last = seen c.pull.new.self;
        within = so_far.so_far.within;
        gave = so_far.so_far.gave;
        others = so_far.so_far.others;
        ends = at_end (omega arith) (subst (λ (k : Course). CanPull k c.args.device c.args.moment → ⊥) c.router.ensures.course (rw c.deref.ensures at (c.if-not-can_pull.ensures.no refl))) refl;
      };
      are_filled = so_far.are_filled;
      unchanged = so_far.unchanged;
    }

pub loop-given-preserved : goal.loop-given-preserved
loop-given-preserved c =
    let l = c.loop-given in
    let low : l.given < length c.args.packets.now = (let test = c.loop-given-test.true in let same = l.auto.packets in omega (arith, test, same)) in (
      pulled-more c.args.device c.args.moment c.args.live.now l.live c.pull.new.self c.args.packets.now l.packets l.given c.in-Some.one c.emitted_for_c.result low l.invariant.0 c.in-Some.ensures.pulled c.emitted_for_c.ensures c.pull.ensures.unchanged,
      subst (λ (k : Course). CanPull k c.args.device c.args.moment) c.router.ensures.course (rw c.deref.ensures at (c.if-not-can_pull.ensures.yes refl)),
    )
