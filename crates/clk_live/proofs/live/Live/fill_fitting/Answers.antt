use Rattle.std.proofs.Common.{◌≡◌, ◌<◌, true, length, Some, refl, sym, ap, ◌∙◌, subst, arith}
use Rattle.std.proofs.lemmas.List.{length-set, take-set-le}
use Rattle.clk_router.specs.Course.{Course, sender_at}
use Rattle.clk_live.specs.declared.taking.Taken.{Taken}
use Rattle.clk_live.specs.declared.taking.OfferOutcome.TheVariants.{Accepted}
use Rattle.clk_live.specs.State.{Seen, seen, GoesOn}
use Rattle.clk_live.specs.Taking.{AreTaken}
use Rattle.clk_live.proofs.Lists.{zip-length}
use Rattle.clk_live.proofs.Fitting.{wanted-before}
use Rattle.clk_live.proofs.Outlets.{all-same, all-then}
use Rattle.clk_live.proofs.SoFar.{taken-more, all-taken, all-from, none-from}
use Rattle.clk_live.proofs.live.Live.fill_fitting.Goals as goal

pub loop-count-init : goal.loop-count-init
loop-count-init c =
    let within = c.requires.within in
    ((omega arith, within.0, refl, c.requires.there), (λ old before h. h), none-from (λ (t : Taken). sender_at c.args.self.now.course.setup c.args.place ≡ Some t.packet.sender) c.args.taken.now c.args.from (omega (arith, within)), (λ h. h), all-same c.args.self.now.outlets, (refl, refl), refl, (λ place is. is))

pub returns-in_default-clause-taken : goal.returns-in_default-clause-taken
returns-in_default-clause-taken c = λ old before h. subst (λ (s : Seen). AreTaken old s before c.loop-count.taken c.loop-count.count) (sym (c.take_fitting.ensures.none c.in_default.is)) (c.loop-count.invariant.1 old before h)

pub returns-in_default-clause-outlets : goal.returns-in_default-clause-outlets
returns-in_default-clause-outlets c = all-then c.args.self.now.outlets c.loop-count.self.outlets c.take_fitting.new.self.outlets c.loop-count.invariant.4 c.take_fitting.ensures.outlets

pub loop-count-preserved : goal.loop-count-preserved
loop-count-preserved c =
    let l = c.loop-count in
    let inv = l.invariant in
    let one = c.in-Some.one in
    let took = c.in-Some.ensures.taken in
    let low : l.count < length l.taken = (let fits = c.requires.within in let test = c.loop-count-test.true in let same = inv.0.2 in omega (arith, fits, test, same)) in
    let setup = ap (λ (k : Course). k.setup) took.goes_on in
    let many = zip-length GoesOn l.self.outlets c.take_fitting.new.self.outlets c.take_fitting.ensures.outlets in (
      (omega (arith, inv.0.0), (let test = c.loop-count-test.true in omega (arith, test)), length-set l.taken l.count one ∙ inv.0.2, (let there = inv.0.3 in omega (arith, there, many))),
      (λ old before h. taken-more old (seen l.self) (seen c.take_fitting.new.self) before l.taken l.count one low (inv.1 old before h) (c.args.place, took)),
      all-from (λ (t : Taken). sender_at c.args.self.now.course.setup c.args.place ≡ Some t.packet.sender) c.args.from l.taken l.count one inv.0.0 low inv.2 (ap (λ s. sender_at s c.args.place) (sym inv.5.1) ∙ took.sender),
      (λ h. all-taken (λ (t : Taken). t.outcome ≡ Accepted) l.taken l.count one low (inv.3 h) c.in-Some.ensures.accepted),
      all-then c.args.self.now.outlets l.self.outlets c.take_fitting.new.self.outlets inv.4 c.take_fitting.ensures.outlets,
      (c.take_fitting.ensures.turn ∙ inv.5.0, setup ∙ inv.5.1),
      take-set-le c.args.from l.taken l.count one inv.0.0 ∙ inv.6,
      (λ place is. c.take_fitting.ensures.full place (inv.7 place is)),
    )

pub returns-in_default-clause-gave_all : goal.returns-in_default-clause-gave_all
returns-in_default-clause-gave_all c =
    λ fewer.
    wanted-before c.args.self.now c.loop-count.self c.take_fitting.new.self c.loop-count.invariant.4 c.take_fitting.ensures.outlets true c.args.place (c.take_fitting.ensures.gave_all c.in_default.is)
