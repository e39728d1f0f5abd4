use Rattle.std.proofs.Common.{◌≡◌, take, drop, Some, refl, ◌∙◌, subst, arith}
use Rattle.clk_router.specs.Course.{sender_at}
use Rattle.clk_router.specs.Events.{Setup}
use Rattle.clk_live.specs.declared.taking.Taken.{Taken}
use Rattle.clk_live.specs.State.{GoesOn}
use Rattle.clk_live.specs.Taking.{AreOf}
use Rattle.clk_live.proofs.Lists.{zip-length}
use Rattle.clk_live.proofs.Outlets.{all-same, all-then, gave-before}
use Rattle.clk_live.proofs.Runs.{of-joined, front-then}
use Rattle.clk_live.proofs.SoFar.{none-from}
use Rattle.clk_live.proofs.live.Live.fill_all.Goals as goal

pub loop-count-init : goal.loop-count-init
loop-count-init c =
    let within = c.requires.within in
    ((omega arith, within.0, refl, c.requires.there), (λ old before h. h), none-from (λ (t : Taken). sender_at c.args.self.now.course.setup c.args.place ≡ Some t.packet.sender) c.args.taken.now c.args.from (omega (arith, within)), all-same c.args.self.now.outlets, (refl, refl), refl, (λ place is. is))

pub returns-then-next-end-clause-taken : goal.returns-then-next-end-clause-taken
returns-then-next-end-clause-taken c = λ old before h. c.take_run-next.ensures.taken old before (c.loop-count.invariant.1 old before h)

pub returns-then-next-end-clause-of_sender : goal.returns-then-next-end-clause-of_sender
returns-then-next-end-clause-of_sender c =
    let l = c.loop-count in
    let f = c.take_run-next in
    let inv = l.invariant in
    of-joined (λ (t : Taken). sender_at c.args.self.now.course.setup c.args.place ≡ Some t.packet.sender) l.taken f.new.taken c.args.from l.count f.result inv.0.0 f.ensures.count.0 f.ensures.front inv.2
    (subst (λ (s : Setup). AreOf s c.args.place (drop l.count (take f.result f.new.taken))) inv.4.1 f.ensures.of_sender)

pub returns-then-next-end-clause-front : goal.returns-then-next-end-clause-front
returns-then-next-end-clause-front c = let l = c.loop-count in front-then c.args.taken.now l.taken c.take_run-next.new.taken c.args.from l.count l.invariant.0.0 c.take_run-next.ensures.front l.invariant.5

pub returns-then-next-end-clause-gave_all : goal.returns-then-next-end-clause-gave_all
returns-then-next-end-clause-gave_all c =
    let f = c.take_run-next in
    λ fewer. gave-before c.args.self.now.outlets c.loop-count.self.outlets f.new.self.outlets c.args.place c.loop-count.invariant.3 f.ensures.outlets (f.ensures.gave_all c.if-next-end.true)

pub returns-then-next-end-clause-outlets : goal.returns-then-next-end-clause-outlets
returns-then-next-end-clause-outlets c = all-then c.args.self.now.outlets c.loop-count.self.outlets c.take_run-next.new.self.outlets c.loop-count.invariant.3 c.take_run-next.ensures.outlets

pub loop-count-preserved : goal.loop-count-preserved
loop-count-preserved c =
    let l = c.loop-count in
    let f = c.take_run-next in
    let inv = l.invariant in
    let many = zip-length GoesOn l.self.outlets f.new.self.outlets f.ensures.outlets in
    let up = f.ensures.count in
    let room = c.min.ensures in
    let test = c.loop-count-test.true in (
      ((let low = inv.0.0 in omega (arith, low, up)), omega (arith, up, room, test), f.auto.taken ∙ inv.0.2, (let there = inv.0.3 in omega (arith, there, many))),
      (λ old before h. f.ensures.taken old before (inv.1 old before h)),
      of-joined (λ (t : Taken). sender_at c.args.self.now.course.setup c.args.place ≡ Some t.packet.sender) l.taken f.new.taken c.args.from l.count f.result inv.0.0 f.ensures.count.0 f.ensures.front inv.2
          (subst (λ (s : Setup). AreOf s c.args.place (drop l.count (take f.result f.new.taken))) inv.4.1 f.ensures.of_sender),
      all-then c.args.self.now.outlets l.self.outlets f.new.self.outlets inv.3 f.ensures.outlets,
      (f.ensures.unchanged.0 ∙ inv.4.0, f.ensures.unchanged.1 ∙ inv.4.1),
      front-then c.args.taken.now l.taken f.new.taken c.args.from l.count inv.0.0 f.ensures.front inv.5,
      (λ place is. f.ensures.full place (inv.6 place is)),
    )
