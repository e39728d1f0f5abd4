use Rattle.std.proofs.Common.{rules, ◌≡◌, ◌+◌, ap, subst, arith}
use Rattle.clk_router.specs.Course.{Course, accepted_at, evicted_at, emitted_at, moment_at}
use Rattle.clk_router.specs.Drains.{HasLeft, DrainsEnd}
use Rattle.clk_router.specs.Events.{CanHappen}
use Rattle.clk_live_run.proofs.Closings.{drained-none, drained-more, drained, can-go-on}
use Rattle.clk_live_run.proofs.closing.drain.Goals as goal

pub loop-init : goal.loop-init
loop-init g c = (tt, tt, drained-none c.args.device c.args.live.now (let happened : CanHappen c.args.live.now.course.setup c.args.live.now.course.events = search rules in happened))

pub returns-then-left-eq0 : goal.returns-then-left-eq0
returns-then-left-eq0 g c =
    let left = subst (λ (x : Course). accepted_at x c.args.device ≡ evicted_at x c.args.device + emitted_at x c.args.device + c.left.result) c.router-in-loop.ensures.course (rw c.deref-in-loop.ensures at c.left.ensures) in
    let none : c.left.result ≡ 0 = c.if-left-eq0.true in
    record { drained = drained c.args.device c.args.live.now c.loop.live c.requires.can.there c.loop.invariant.2 (omega (arith, left, none)) }

pub pull-requires : goal.pull-requires
pull-requires g c =
    let left = subst (λ (x : Course). accepted_at x c.args.device ≡ evicted_at x c.args.device + emitted_at x c.args.device + c.left.result) c.router-in-loop.ensures.course (rw c.deref-in-loop.ensures at c.left.ensures) in
    let some = c.if-left-eq0.false in
    let has_left : HasLeft c.loop.live.course c.args.device = omega (arith, left, some) in
    let when = subst (λ (x : Course). c.moment-moment.result ≡ moment_at x c.args.device) c.router-in-loop-2.ensures.course (rw c.deref-in-loop-2.ensures at c.moment-moment.ensures.moment) in
    let ends = subst (λ (x : Course). DrainsEnd x c.args.device 0) c.router.ensures.course ((rw c.deref.ensures at c.drains_end.ensures) c.args.device 0) in
    record { can = can-go-on c.args.device c.args.live.now c.loop.live (c.moment-moment.result + 1) ends c.requires.can c.loop.invariant.2 has_left (ap (λ n. n + 1) when) }

pub loop-preserved : goal.loop-preserved
loop-preserved g c =
    let left = subst (λ (x : Course). accepted_at x c.args.device ≡ evicted_at x c.args.device + emitted_at x c.args.device + c.left.result) c.router-in-loop.ensures.course (rw c.deref-in-loop.ensures at c.left.ensures) in
    let some = c.if-left-eq0.false in
    let has_left : HasLeft c.loop.live.course c.args.device = omega (arith, left, some) in
    let when = subst (λ (x : Course). c.moment-moment.result ≡ moment_at x c.args.device) c.router-in-loop-2.ensures.course (rw c.deref-in-loop-2.ensures at c.moment-moment.ensures.moment) in
    let happened = subst (λ (x : Course). CanHappen x.setup x.events) c.router-in-loop-3.ensures.course (rw c.deref-in-loop-3.ensures at c.has_happened-in-loop.ensures) in (
      tt,
      tt,
      drained-more c.args.device c.args.live.now c.loop.live c.pull.new.self (c.moment-moment.result + 1) c.pull.result c.loop.invariant.2 c.requires.can.there has_left (ap (λ n. n + 1) when) c.pull.ensures.pulled happened
          c.pull.ensures.unchanged.0,
    )
