use Rattle.std.proofs.Common.{◌≡◌, ◌<◌, ◌≤◌, Some, None, refl, subst, arith}
use Rattle.clk_router.specs.Course.{Course}
use Rattle.clk_router.specs.Due.{IsDeviceDue, EmitsNoneBefore}
use Rattle.clickpull_c.specs.Answers.{HasNoDevice}
use Rattle.clickpull_c.specs.Tells.{TellsDue}
use Rattle.clickpull_c.proofs.LiveSteps.{told, untold}
use Rattle.clickpull_c.proofs.live.telling.tell_due.Goals as goal

pub returns-then-from-devices : goal.returns-then-from-devices
returns-then-from-devices c =
    let high : c.devices.result ≤ c.from.result = grind arith in
    untold c.args.router.now c.in-Some.live 5 (λ s. TellsDue s.course c.args.device c.args.moment.now c.args.moment.now 5) (λ s. HasNoDevice s.course c.args.device 5) (c.args.moment.now ≡ c.args.moment.now) c.in-Some.is
    (subst (λ (k : Course). HasNoDevice k c.args.device 5) c.router-router.ensures.course (record { answers = refl; missing = omega (arith, high, c.from.ensures, (rw c.deref.ensures at c.devices.ensures.count)) })) refl

pub returns-in-Some-due : goal.returns-in-Some-due
returns-in-Some-due c =
    let low : c.from.result < c.devices.result = grind arith in
    let router = c.router-router.result.now in
    let found = subst (λ due. IsDeviceDue router c.args.device due) c.in-Some-due.is (rw c.deref-2.ensures at c.due.ensures.due) in
    let before = subst (λ due. EmitsNoneBefore router c.args.device due) c.in-Some-due.is (rw c.deref-2.ensures at c.due.ensures.before) in
    told c.args.router.now c.in-Some.live 0 (λ s. TellsDue s.course c.args.device c.args.moment.now c.in-Some-due.due 0) (λ s. HasNoDevice s.course c.args.device 0) (c.in-Some-due.due ≡ c.args.moment.now) c.in-Some.is
    (subst (λ (k : Course). TellsDue k c.args.device c.args.moment.now c.in-Some-due.due 0) c.router-router.ensures.course
    (record { there = omega (arith, low, c.from.ensures, (rw c.deref.ensures at c.devices.ensures.count)); due = Some c.in-Some-due.due; is = found; before_is = before; fills = (refl, refl) }))

pub returns-in-None : goal.returns-in-None
returns-in-None c =
    let low : c.from.result < c.devices.result = grind arith in
    let router = c.router-router.result.now in
    let found = subst (λ due. IsDeviceDue router c.args.device due) c.in-None.is (rw c.deref-2.ensures at c.due.ensures.due) in
    let before = subst (λ due. EmitsNoneBefore router c.args.device due) c.in-None.is (rw c.deref-2.ensures at c.due.ensures.before) in
    told c.args.router.now c.in-Some.live 1 (λ s. TellsDue s.course c.args.device c.args.moment.now c.args.moment.now 1) (λ s. HasNoDevice s.course c.args.device 1) (c.args.moment.now ≡ c.args.moment.now) c.in-Some.is
    (subst (λ (k : Course). TellsDue k c.args.device c.args.moment.now c.args.moment.now 1) c.router-router.ensures.course
    (record { there = omega (arith, low, c.from.ensures, (rw c.deref.ensures at c.devices.ensures.count)); due = None; is = found; before_is = before; fills = (refl, refl) }))
