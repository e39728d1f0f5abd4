use Rattle.std.proofs.Common.{◌≡◌, ℕ, ◌+◌, ◌-◌, ◌<◌, ◌≤◌, ◌∙◌, ◌⊎◌, inl, inr, min, length, take, drop, refl, sym, ap, subst, arith}
use Rattle.std.proofs.lemmas.List.{length-map, take-take}
use Rattle.clk_inlet.specs.Halves.{taken}
use Rattle.clk_packet.specs.Lists.{AreRising}
use Rattle.clk_router.specs.Course.{sender_at}
use Rattle.clk_router.specs.Events.{Setup, sender_numbers}
use Rattle.clk_tree.specs.PlanParts.{number_of}
use Rattle.clk_live.specs.State.{LiveState, GoesOn}
use Rattle.clk_live.specs.Taking.{AreOf}
use Rattle.clk_live.specs.inside.Each.{GaveAllWanted, GaveSharesOr}
use Rattle.clk_live.proofs.Fitting.{wanted-later, wanted-before}
use Rattle.clk_live.proofs.Lists.{member, zip-length}
use Rattle.clk_live.proofs.Outlets.{all-same, all-then}
use Rattle.clk_live.proofs.Rounds.{lt-or, each-none, each-more, shares-none, shares-keep, shares-more, last-of}
use Rattle.clk_live.proofs.live.Live.sweep.Goals as goal

-- a sender at whose place a sweep had room for all gave as many as it may, or fewer than were asked of it
share : (each size from room result : ℕ) → (result < from + room) ⊎ (from + room ≤ result) → result ≤ from + room → room ≡ min each (size - from) → result < size → (result ≡ from + each) ⊎ (result < from + room)
share each size from room result (inl fewer) most room_is open_yet = inr fewer
share each size from room result (inr all) most room_is open_yet = inl (omega (arith, all, most, room_is, open_yet))

pub loop-place-init : goal.loop-place-init
loop-place-init c =
    let there = c.requires.there in (
      (omega arith, there.0, there.1),
      (omega arith, c.requires.within, refl),
      (λ old before h. h),
      each-none c.args.self.now.course.setup c.args.first c.args.each (take c.args.from c.args.taken.now),
      (λ only h. h),
      all-same c.args.self.now.outlets,
      refl,
      (λ fewer. shares-none (GaveAllWanted c.args.only_fitting c.args.self.now c.args.self.now) c.args.self.now.course.setup c.args.first c.args.each (take c.args.from c.args.taken.now)),
      (λ full. record { none = λ e. refl; some = λ more t at. absurd (omega (arith, more)) }),
      refl,
      (λ place is. is),
      (λ full place s from_first low at. absurd (omega (arith, from_first, low))),
    )

pub loop-place-preserved : goal.loop-place-preserved
loop-place-preserved c =
    let l = c.loop-place in
    let inv = l.invariant in
    let f = c.fill-count in
    let old = c.args.self.now in
    let rising : AreRising (sender_numbers old.course.setup) = subst (λ (s : LiveState). AreRising (sender_numbers s.course.setup)) c.self.view_is (rw (c.senders.ensures.numbers, c.deref.ensures) at c.senders.ensures.rising) in
    let places : length old.outlets ≡ length old.course.setup.senders = subst (λ (s : LiveState). length s.outlets ≡ length s.course.setup.senders) c.self.view_is (sym (length-map c.self.inside.outlets.items taken) ∙ c.self.invariant.places) in
    let same = zip-length GoesOn old.outlets l.self.outlets inv.5 in
    let later = zip-length GoesOn l.self.outlets f.new.self.outlets f.ensures.outlets in
    let numbers = length-map old.course.setup.senders number_of in
    let test = c.loop-place-test.true in
    let n = member (sender_numbers old.course.setup) l.place (let end = inv.0.2 in omega (arith, end, same, places, numbers, test)) in
    let of : AreOf old.course.setup l.place (drop l.count (take f.result f.new.taken)) = subst (λ (s : Setup). AreOf s l.place (drop l.count (take f.result f.new.taken))) inv.6 f.ensures.of_sender in
    let length_same : length f.new.taken ≡ length l.taken = f.auto.taken in
    let within : f.result ≤ length f.new.taken = (let count = f.ensures.count in let room = c.min.ensures in let low = inv.1.1 in omega (arith, count, room, low, length_same)) in
    let few : f.result ≤ l.count + c.args.each = (let count = f.ensures.count in let room = c.min.ensures in omega (arith, count, room)) in (
      (omega (arith, inv.0.0), omega (arith, test), (let end = inv.0.2 in omega (arith, end, later))),
      (omega (arith, inv.1.0, f.ensures.count), within, length_same ∙ inv.1.2),
      (λ start before h. f.ensures.taken start before (inv.2 start before h)),
      each-more old.course.setup c.args.first l.place n.0 c.args.each l.count f.result (take c.args.from c.args.taken.now) l.taken f.new.taken rising inv.0.0 n.1 f.ensures.front f.ensures.count.0 within few of inv.3,
      (λ only h. f.ensures.accepted only (inv.4 only h)),
      all-then old.outlets l.self.outlets f.new.self.outlets inv.5 f.ensures.outlets,
      f.ensures.unchanged.1 ∙ inv.6,
      (λ fewer.
          shares-more (GaveAllWanted c.args.only_fitting old l.self) (GaveAllWanted c.args.only_fitting old f.new.self) old.course.setup c.args.first l.place n.0 c.args.each l.count f.result (l.count + c.min.result) (take c.args.from c.args.taken.now) l.taken f.new.taken
          (wanted-later old l.self f.new.self inv.5 f.ensures.outlets c.args.only_fitting f.ensures.full) rising inv.0.0 n.1 f.ensures.front f.ensures.count.0 within few of
          (λ less. wanted-before old l.self f.new.self inv.5 f.ensures.outlets c.args.only_fitting l.place (f.ensures.gave_all less))
          (share c.args.each (length l.taken) l.count c.min.result f.result (lt-or f.result (l.count + c.min.result)) f.ensures.count.1 c.min.ensures (let low = fewer in omega (arith, low, length_same))) inv.3 (inv.7 c.if-count-taken.true)),
      (λ full. record {
        none = λ e. (let fewer = c.if-count-taken.true in let up = inv.1.0 in absurd (omega (arith, e, full, fewer, up, length_same)));
        some = λ more t at. (
          omega (arith, inv.0.0),
          (let here : l.place + 1 - 1 ≡ l.place = omega arith in
              ap (sender_at old.course.setup) here ∙ last-of old.course.setup l.place l.count f.result f.new.taken t (let fewer = c.if-count-taken.true in omega (arith, fewer, full, length_same)) full of at),
        );
      }),
      sym (take-take c.args.from l.count f.new.taken inv.1.0) ∙ ap (take c.args.from) f.ensures.front ∙ take-take c.args.from l.count l.taken inv.1.0 ∙ inv.9,
      (λ place is. f.ensures.full place (inv.10 place is)),
      (λ full.
          subst (λ (end : ℕ). GaveSharesOr (GaveAllWanted c.args.only_fitting old f.new.self) old.course.setup c.args.first end c.args.each (take c.args.from c.args.taken.now) (take f.result f.new.taken)) (omega arith)
          (shares-keep (GaveAllWanted c.args.only_fitting old l.self) (GaveAllWanted c.args.only_fitting old f.new.self) old.course.setup c.args.first l.place n.0 c.args.each l.count f.result (take c.args.from c.args.taken.now) l.taken f.new.taken
          (wanted-later old l.self f.new.self inv.5 f.ensures.outlets c.args.only_fitting f.ensures.full) rising n.1 f.ensures.front f.ensures.count.0 within few of (inv.7 c.if-count-taken.true))),
    )
