use Rattle.std.proofs.Common.{◌≡◌, ℕ, ◌+◌, ◌<◌, ◌≤◌, ◌⊎◌, inl, inr, List, length, slice_set, refl, sym, ap, ◌∙◌, subst, arith}
use Rattle.std.proofs.lemmas.List.{length-set}
use Rattle.clickpull_c.specs.declared.values.CDeparture.{CDeparture}
use Rattle.clk_router.specs.Course.{moment_at}
use Rattle.clk_router.specs.Drains.{HasLeft}
use Rattle.clickpull_c.specs.Calls.{empty, full, at_end}
use Rattle.clickpull_c.specs.Counts.{device_count}
use Rattle.clickpull_c.specs.Values.{packet_in_c}
use Rattle.clickpull_c.specs.inside.SoFar.{DrainedSoFar}
use Rattle.clickpull_c.proofs.SoFar.{drained-none, drained-some, drained-to}
use Rattle.clickpull_c.proofs.LiveLoops.{either-full}
use Rattle.clickpull_c.proofs.draining.drain.Goals.{in-Some, in_default, then-given-departures-via-then-given-departures, then-given-departures-via-else-given-departures+then-made-pulls}
use Rattle.clickpull_c.proofs.draining.drain.Goals as goal

pub loop-device-preserved : goal.loop-device-preserved
loop-device-preserved c =
    let l = c.loop-device in
    let moment = c.moment-moment.result + 1 in
    let next = c.pull.new.self in
    let same_devices : device_count l.router ≡ device_count next = ap device_count (sym c.pull.ensures.pulled.goes_on) in
    let there : c.args.device < device_count next = subst (λ n. c.args.device < n) same_devices l.invariant.2 in
    let few : l.made + 1 ≤ c.args.pulls = grind arith in
    let low : l.given < length l.departures = grind arith in
    let counted = rw c.deref.ensures at c.left.ensures in
    let left : HasLeft l.router c.args.device = omega (arith, counted) in
    let when = ap (λ n. n + 1) (rw c.deref-in-loop-device.ensures at c.moment-moment.ensures.moment) in
    let Kept : List CDeparture → ℕ → Type 0 = λ filled given. DrainedSoFar c.args.router.now next c.args.device c.args.departures.now filled (l.made + 1) given × (length filled ≡ length c.args.departures.now) in
    let both : Kept c.match-pull.departures c.match-pull.given = elim c.match-pull.branch [
      | in-Some w ↦
          let p = w.in-Some.packet in
          let y : CDeparture = record { moment = moment; packet = packet_in_c p } in
          let filled : c.match-pull.departures ≡ slice_set l.departures l.given y = w.departures-is ∙ ap (λ q. slice_set l.departures l.given (record { moment = moment; packet = q })) w.packet_for_c.ensures in
          let more = drained-some c.args.router.now l.router next c.args.device c.args.departures.now l.departures l.made l.given moment p l.invariant.1 low l.invariant.0
          (record { left = left; moment = when; pulled = w.in-Some.ensures.pulled }) in
          subst (λ g. Kept c.match-pull.departures g) (sym w.given-is) (subst (λ d. Kept d (l.given + 1)) (sym filled) (more, length-set l.departures l.given y ∙ l.invariant.1))
      | in_default w ↦
          let more = drained-none c.args.router.now l.router next c.args.device c.args.departures.now l.departures l.made l.given moment l.invariant.1 low l.invariant.0
          (record { left = left; moment = when; pulled = w.in_default.ensures.pulled }) in
          subst (λ g. Kept c.match-pull.departures g) (sym w.given-is) (subst (λ d. Kept d l.given) (sym w.departures-is) (more, l.invariant.1))
    ] in
    (both.0, both.1, there, few)

pub returns-then-given-departures : goal.returns-then-given-departures
returns-then-given-departures c =
    let l = c.loop-device in
    let counted = rw c.deref.ensures at c.left.ensures in
    let left : HasLeft l.router c.args.device = (let some = c.loop-device-test.true in omega (arith, counted, some)) in
    let which : (l.given ≡ length l.departures) ⊎ (l.made ≡ c.args.pulls) = elim c.then-given-departures.branch [
      | then-given-departures-via-then-given-departures w ↦ inl (let t = w.if-given-departures.true in omega (arith, t))
      | then-given-departures-via-else-given-departures+then-made-pulls w ↦ inr (let t = w.if-made-pulls.true in omega (arith, t))
    ] in
    drained-to c.args.router.now l.router c.args.device c.args.pulls c.args.departures.now l.departures l.made l.given 1 l.invariant.3 l.invariant.0
    (λ pulls count. full refl left (either-full l.given (length l.departures) (length c.args.departures.now) l.made c.args.pulls pulls l.invariant.1 count which))

pub returns-then-not-can_pull : goal.returns-then-not-can_pull
returns-then-not-can_pull c =
    let l = c.loop-device in
    let counted = rw c.deref.ensures at c.left.ensures in
    let left : HasLeft l.router c.args.device = (let some = c.loop-device-test.true in omega (arith, counted, some)) in
    let latest : c.moment-moment.result ≡ moment_at l.router c.args.device = rw c.deref-in-loop-device.ensures at c.moment-moment.ensures.moment in
    let never = rw (c.deref-in-loop-device-2.ensures, latest) at (c.if-not-can_pull.ensures.no refl) in
    drained-to c.args.router.now l.router c.args.device c.args.pulls c.args.departures.now l.departures l.made l.given 7 l.invariant.3 l.invariant.0 (λ pulls count. at_end refl left never)

pub returns : goal.returns
returns c =
    let l = c.loop-device in
    let counted = rw c.deref.ensures at c.left.ensures in
    drained-to c.args.router.now l.router c.args.device c.args.pulls c.args.departures.now l.departures l.made l.given 0 l.invariant.3 l.invariant.0
    (λ pulls count. empty refl (let none = c.loop-device-test.false in omega (arith, counted, none)))
