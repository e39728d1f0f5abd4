use Rattle.std.proofs.Common.{◌≡◌, ◌<◌, ◌+◌, ◌∙◌, length, refl, ap, subst, arith}
use Rattle.clk_router.specs.Course.{Course, CanPull, accepted_at, evicted_at, emitted_at, moment_at}
use Rattle.clk_router.specs.Drains.{HasLeft}
use Rattle.clk_live.specs.State.{LiveState, seen}
use Rattle.clk_live.specs.Draining.{DrainPull}
use Rattle.clk_live.proofs.Drains.{drained-more}
use Rattle.clk_live.proofs.live.Live.drain.Goals as goal

pub loop-self-preserved : goal.loop-self-preserved
loop-self-preserved c =
    let l = c.loop-self in
    let d = c.args.device in
    let moment = c.moment-moment.result + 1 in
    let pull : DrainPull = record { moment = moment; got = c.pull-got.result } in
    let counted : accepted_at l.self.course d ≡ evicted_at l.self.course d + emitted_at l.self.course d + c.left.result = subst (λ (s : LiveState). accepted_at s.course d ≡ evicted_at s.course d + emitted_at s.course d + c.left.result) c.self.view_is (rw c.deref.ensures at c.left.ensures) in
    let left : HasLeft l.self.course d = (let some = c.loop-self-test.true in omega (arith, counted, some)) in
    let latest : c.moment-moment.result ≡ moment_at l.self.course d = subst (λ (s : LiveState). c.moment-moment.result ≡ moment_at s.course d) c.self.view_is (rw c.deref-in-loop-self.ensures at c.moment-moment.ensures.moment) in
    let low : l.given < length l.departed = grind arith in
    let setup = ap (λ (k : Course). length k.setup.trees) c.pull-got.ensures.pulled.pulled.goes_on in (
      drained-more d (seen c.args.self.now) (seen l.self) (seen c.pull-got.new.self) c.args.departed.now l.departed c.note-given.new.departed l.made l.given c.note-given.result pull low l.invariant.0
          (record { left = left; moment = ap (λ n. n + 1) latest; pulled = c.pull-got.ensures.pulled }) c.note-given.auto.departed c.note-given.ensures.within c.note-given.ensures.filled c.note-given.ensures.others,
      (let there = l.invariant.1 in omega (arith, there, setup)),
      grind arith,
      (c.pull-got.ensures.unchanged.0 ∙ l.invariant.3.0, c.pull-got.ensures.unchanged.1 ∙ l.invariant.3.1),
    )

pub returns-then-not-can_pull-clause-drained : goal.returns-then-not-can_pull-clause-drained
returns-then-not-can_pull-clause-drained c =
    let l = c.loop-self in
    let d = c.args.device in
    let so_far = l.invariant.0 in
    let counted : accepted_at l.self.course d ≡ evicted_at l.self.course d + emitted_at l.self.course d + c.left.result = subst (λ (s : LiveState). accepted_at s.course d ≡ evicted_at s.course d + emitted_at s.course d + c.left.result) c.self.view_is (rw c.deref.ensures at c.left.ensures) in
    let latest : c.moment-moment.result ≡ moment_at c.self.inside.router d = rw c.deref-in-loop-self.ensures at c.moment-moment.ensures.moment in
    let never = subst (λ (s : LiveState). CanPull s.course d (moment_at s.course d + 1) → ⊥) c.self.view_is (rw (c.deref-in-loop-self-2.ensures, latest) at (c.if-not-can_pull.ensures.no refl)) in
    record {
      pulls = so_far.pulls;
      made = so_far.chain;
      few = (let count = so_far.count in let most = l.invariant.2 in omega (arith, count, most));
      within = so_far.within;
      room = so_far.room;
      gave = so_far.gave;
      others = so_far.others;
      ends = ((let some = c.loop-self-test.true in omega (arith, counted, some)), never);
    }
