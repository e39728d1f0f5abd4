use Rattle.std.proofs.Common.{◌<◌, ◌∙◌, length, refl, subst, arith}
use Rattle.clk_router.specs.Course.{CanPull}
use Rattle.clk_live.specs.State.{LiveState, seen}
use Rattle.clk_live.specs.Pulling.{at_end}
use Rattle.clk_live.proofs.Pulls.{gave-more}
use Rattle.clk_live.proofs.live.Live.pull_many.Goals as goal

pub returns-then-not-can_pull-clause-pulled : goal.returns-then-not-can_pull-clause-pulled
returns-then-not-can_pull-clause-pulled c =
    let l = c.loop-given in
    let low : l.given < length l.emitted = (let test = c.loop-given-test.true in omega (arith, test)) in
    let so_far = gave-more c.args.device c.args.moment (seen c.args.self.now) (seen l.self) (seen c.pull.new.self) c.args.emitted.now l.emitted l.given c.in-Some.one low l.invariant.0 c.in-Some.ensures.pulled in
    let never = subst (λ (s : LiveState). CanPull s.course c.args.device c.args.moment → ⊥) c.self.view_is (rw c.deref.ensures at (c.if-not-can_pull.ensures.no refl)) in
    record { last = seen c.pull.new.self; within = so_far.within; gave = so_far.gave; others = so_far.others; ends = at_end (omega arith) never refl }

pub loop-given-preserved : goal.loop-given-preserved
loop-given-preserved c =
    let l = c.loop-given in
    let low : l.given < length l.emitted = (let test = c.loop-given-test.true in omega (arith, test)) in (
      gave-more c.args.device c.args.moment (seen c.args.self.now) (seen l.self) (seen c.pull.new.self) c.args.emitted.now l.emitted l.given c.in-Some.one low l.invariant.0 c.in-Some.ensures.pulled,
      subst (λ (s : LiveState). CanPull s.course c.args.device c.args.moment) c.self.view_is (rw c.deref.ensures at (c.if-not-can_pull.ensures.yes refl)),
      (c.pull.ensures.unchanged.0 ∙ l.invariant.2.0, c.pull.ensures.unchanged.1 ∙ l.invariant.2.1),
    )
