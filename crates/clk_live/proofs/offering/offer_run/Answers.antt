use Rattle.std.proofs.Common.{◌≡◌, ◌+◌, ◌<◌, ◌++◌, List, length, take, drop, set, Some, refl, sym, ap, ◌∙◌, subst, arith}
use Rattle.std.proofs.lemmas.List.{length-set, take-set-le, take_more, take_all}
use Rattle.clk_inlet.specs.declared.item.Item.{Item}
use Rattle.clk_router.specs.Course.{sender_at}
use Rattle.clk_router.specs.Events.{Setup}
use Rattle.clk_live.specs.declared.taking.Taken.{Taken}
use Rattle.clk_live.specs.Taking.{AreTaken, AreOf}
use Rattle.clk_live.specs.inside.Kept.{IsKept}
use Rattle.clk_live.proofs.Runs.{none-yet, can-next, kept-more, takes-more, its-sender, same-setup}
use Rattle.clk_live.proofs.SoFar.{taken-more, all-from, none-from}
use Rattle.clk_live.proofs.offering.offer_run.Goals as goal

pub loop-done-init : goal.loop-done-init
loop-done-init c =
    let a = c.args in
    let within = c.requires.within in
    let start : a.from ≡ a.from + 0 = omega arith in (
      (omega arith, refl),
      (λ items before can. subst (λ (ls : List (List Item)). IsKept a.router.now ls a.tokens.now.items) (sym (none-yet items a.place before can.its)) can.kept),
      (λ items before can old slots h.
          subst (λ (ls : List (List Item)). AreTaken old (record { course = a.router.now; items = ls }) slots a.taken.now (a.from + 0)) (sym (none-yet items a.place before can.its))
          (subst (λ n. AreTaken old (record { course = a.router.now; items = items }) slots a.taken.now n) start h)),
      subst (λ n. AreOf a.router.now.setup a.place (drop a.from (take n a.taken.now))) start (none-from (λ (t : Taken). sender_at a.router.now.setup a.place ≡ Some t.packet.sender) a.taken.now a.from (omega (arith, within))),
      refl,
      (λ place is. is),
      refl,
    )

pub offer_next-requires-clause-can : goal.offer_next-requires-clause-can
offer_next-requires-clause-can c =
    let can = c.requires.can in
    let l = c.loop-done in
    (set can.0 c.args.place (can.1 ++ take l.done c.args.run.now), can.1 ++ take l.done c.args.run.now, can-next c.args.run.now l.done c.loop-done-test.true l.invariant.1 can.0 can.1 can.2)

pub loop-done-preserved : goal.loop-done-preserved
loop-done-preserved c =
    let a = c.args in
    let l = c.loop-done in
    let inv = l.invariant in
    let can = c.requires.can in
    let low = c.loop-done-test.true in
    let t = c.offer_next.result in
    let new = c.offer_next.new in
    let offered = c.offer_next.ensures.offered in
    let next : a.from + l.done + 1 ≡ a.from + (l.done + 1) = omega arith in
    let there : a.from + l.done < length l.taken = (let within = c.requires.within in let same = inv.0.1 in omega (arith, within, same, low)) in (
      (omega (arith, low), length-set l.taken (a.from + l.done) t ∙ inv.0.1),
      (λ items before free. kept-more a.run.now l.done low inv.1 items before free offered (take_more a.run.now l.done _ low)),
      (λ items before free old slots h.
          subst (λ n. AreTaken old (record { course = new.router; items = set items a.place (before ++ take (l.done + 1) a.run.now) }) slots (set l.taken (a.from + l.done) t) n) next
          (taken-more old (record { course = l.router; items = set items a.place (before ++ take l.done a.run.now) }) (record { course = new.router; items = set items a.place (before ++ take (l.done + 1) a.run.now) }) slots l.taken (a.from + l.done) t there
          (inv.2 items before free old slots h) (takes-more a.run.now l.done low inv.1 items before free offered (take_more a.run.now l.done _ low)))),
      subst (λ n. AreOf a.router.now.setup a.place (drop a.from (take n (set l.taken (a.from + l.done) t)))) next
          (all-from (λ (u : Taken). sender_at a.router.now.setup a.place ≡ Some u.packet.sender) a.from l.taken (a.from + l.done) t (omega arith) there inv.3
          (ap (λ (s : Setup). sender_at s a.place) (sym inv.6) ∙ its-sender a.run.now l.done low inv.1 can.0 can.1 can.2 offered (take_more a.run.now l.done _ low))),
      take-set-le a.from l.taken (a.from + l.done) t (omega arith) ∙ inv.4,
      (λ place is. c.offer_next.ensures.full place (inv.5 place is)),
      same-setup a.run.now l.done low inv.1 can.0 can.1 can.2 offered (take_more a.run.now l.done _ low) ∙ inv.6,
    )

pub returns-clause-kept : goal.returns-clause-kept
returns-clause-kept c =
    let l = c.loop-done in
    let none = c.loop-done-test.false in
    let all = take_all l.done c.args.run.now (omega (arith, none)) in
    λ items before can. subst (λ (xs : List Item). IsKept l.router (set items c.args.place (before ++ xs)) l.tokens.items) all (l.invariant.1 items before can)

pub returns-clause-taken : goal.returns-clause-taken
returns-clause-taken c =
    let l = c.loop-done in
    let none = c.loop-done-test.false in
    let within = l.invariant.0.0 in
    let all = take_all l.done c.args.run.now (omega (arith, none)) in
    let end : c.args.from + l.done ≡ c.args.from + length c.args.run.now = omega (arith, none, within) in
    λ items before can old slots h.
    subst (λ (xs : List Item). AreTaken old (record { course = l.router; items = set items c.args.place (before ++ xs) }) slots l.taken (c.args.from + length c.args.run.now)) all
    (subst (λ n. AreTaken old (record { course = l.router; items = set items c.args.place (before ++ take l.done c.args.run.now) }) slots l.taken n) end (l.invariant.2 items before can old slots h))
