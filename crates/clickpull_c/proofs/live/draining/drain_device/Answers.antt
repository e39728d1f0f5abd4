use Rattle.std.proofs.Common.{◌≡◌, ℕ, ◌+◌, ◌<◌, ◌≤◌, ◌⊎◌, inl, inr, List, length, refl, sym, ap, subst, arith}
use Rattle.clk_router.specs.Course.{Course, accepted_at, evicted_at, emitted_at, moment_at, CanPull}
use Rattle.clk_router.specs.Drains.{HasLeft}
use Rattle.clk_live.specs.declared.draining.DrainEnd.TheVariants.{MoreLeft, AtEnd}
use Rattle.clickpull_c.specs.declared.live.values.CDeparted.{CDeparted}
use Rattle.clickpull_c.specs.inside.live.Given.{DepartedSoFar}
use Rattle.clickpull_c.proofs.LiveLoops.{departed-none, departed-same, departed-more, drained-so-far, either-full}
use Rattle.clickpull_c.proofs.live.draining.drain_device.Goals.{in-Some, in_default, then-given-departures-via-then-given-departures, then-given-departures-via-else-given-departures+then-made-pulls}
use Rattle.clickpull_c.proofs.live.draining.drain_device.Goals as goal

-- packets are left where a router counts some
has-left : (k course : Course) (device left : ℕ) → k ≡ course → accepted_at k device ≡ evicted_at k device + emitted_at k device + left → 0 < left → HasLeft course device
has-left k course device left same counted some = subst (λ (c : Course). HasLeft c device) same (omega (arith, counted, some))

pub loop-device-init : goal.loop-device-init
loop-device-init c = (departed-none c.args.device c.args.live.now c.args.departures.now, c.requires.device, omega arith)

pub returns-then-given-departures : goal.returns-then-given-departures
returns-then-given-departures c =
    let l = c.loop-device in
    let left = has-left c.router.result.now l.live.course c.args.device c.left.result c.router.ensures.course (rw c.deref.ensures at c.left.ensures) c.loop-device-test.true in
    let which : (l.given ≡ length l.departures) ⊎ (l.made ≡ c.args.pulls) = elim c.then-given-departures.branch [
      | then-given-departures-via-then-given-departures w ↦ inl (let t = w.if-given-departures.true in omega (arith, t))
      | then-given-departures-via-else-given-departures+then-made-pulls w ↦ inr (let t = w.if-made-pulls.true in omega (arith, t))
    ] in
    drained-so-far c.args.device c.args.pulls c.args.live.now l.live c.args.departures.now l.departures l.made l.given 1 MoreLeft l.invariant.2 l.invariant.0
    (λ pulls count. (left, either-full l.given (length l.departures) (length c.args.departures.now) l.made c.args.pulls (length pulls) l.auto.departures count which)) refl

pub returns-then-not-can_pull : goal.returns-then-not-can_pull
returns-then-not-can_pull c =
    let l = c.loop-device in
    let d = c.args.device in
    let left = has-left c.router.result.now l.live.course d c.left.result c.router.ensures.course (rw c.deref.ensures at c.left.ensures) c.loop-device-test.true in
    let latest : c.moment-moment.result ≡ moment_at l.live.course d = subst (λ (k : Course). c.moment-moment.result ≡ moment_at k d) c.router-in-loop-device.ensures.course (rw c.deref-in-loop-device.ensures at c.moment-moment.ensures.moment) in
    let never : CanPull l.live.course d (c.moment-moment.result + 1) → ⊥ = subst (λ (k : Course). CanPull k d (c.moment-moment.result + 1) → ⊥) c.router-in-loop-device-2.ensures.course (rw c.deref-in-loop-device-2.ensures at (c.if-not-can_pull.ensures.no refl)) in
    drained-so-far d c.args.pulls c.args.live.now l.live c.args.departures.now l.departures l.made l.given 7 AtEnd l.invariant.2 l.invariant.0
    (λ pulls count. (left, subst (λ m. CanPull l.live.course d (m + 1) → ⊥) latest never)) refl

pub loop-device-preserved : goal.loop-device-preserved
loop-device-preserved c =
    let l = c.loop-device in
    let d = c.args.device in
    let moment = c.moment-moment.result + 1 in
    let next = c.pull.new.self in
    let before = c.args.departures.now in
    let few : l.made + 1 ≤ c.args.pulls = grind arith in
    let low : l.given < length before = (let fits = l.invariant.0.so_far.within in let many = l.invariant.0.many in let same = l.auto.departures in grind arith) in
    let left = has-left c.router.result.now l.live.course d c.left.result c.router.ensures.course (rw c.deref.ensures at c.left.ensures) c.loop-device-test.true in
    let latest : c.moment-moment.result ≡ moment_at l.live.course d = subst (λ (k : Course). c.moment-moment.result ≡ moment_at k d) c.router-in-loop-device.ensures.course (rw c.deref-in-loop-device.ensures at c.moment-moment.ensures.moment) in
    let setup = ap (λ (k : Course). length k.setup.trees) c.pull.ensures.pulled.pulled.goes_on in
    let there : d < length next.course.setup.trees = (let was = l.invariant.1 in omega (arith, was, setup)) in
    let both : DepartedSoFar d c.args.live.now next before c.match-pull.departures (l.made + 1) c.match-pull.given = elim c.match-pull.branch [
      | in-Some w ↦
          let more = departed-more d c.args.live.now l.live next before l.departures l.made l.given moment w.in-Some.one w.departed_for_c.result low l.invariant.0
          (record { left = left; moment = ap (λ n. n + 1) latest; pulled = w.in-Some.ensures.pulled }) w.departed_for_c.ensures c.pull.ensures.unchanged in
          subst (λ g. DepartedSoFar d c.args.live.now next before c.match-pull.departures (l.made + 1) g) (sym w.given-is)
          (subst (λ (f : List CDeparted). DepartedSoFar d c.args.live.now next before f (l.made + 1) (l.given + 1)) (sym w.departures-is) more)
      | in_default w ↦
          let more = departed-same d c.args.live.now l.live next before l.departures l.made l.given moment low l.invariant.0
          (record { left = left; moment = ap (λ n. n + 1) latest; pulled = w.in_default.ensures.pulled }) c.pull.ensures.unchanged in
          subst (λ g. DepartedSoFar d c.args.live.now next before c.match-pull.departures (l.made + 1) g) (sym w.given-is)
          (subst (λ (f : List CDeparted). DepartedSoFar d c.args.live.now next before f (l.made + 1) l.given) (sym w.departures-is) more)
    ] in
    (both, there, few)
