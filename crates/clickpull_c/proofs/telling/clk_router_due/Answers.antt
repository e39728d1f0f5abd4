use Rattle.std.proofs.Common.{◌<◌, Some, None, inl, refl, subst, arith}
use Rattle.clk_router.specs.Course.{Course}
use Rattle.clk_router.specs.Due.{IsDeviceDue, EmitsNoneBefore}
use Rattle.clickpull_c.specs.Tells.{TellsDue}
use Rattle.clickpull_c.proofs.telling.clk_router_due.Goals as goal

pub returns-in-Some-clause-answer : goal.returns-in-Some-clause-answer
returns-in-Some-clause-answer c =
    let low : c.from.result < c.devices.result = grind arith in
    let router = c.get_mut-router.result.now in
    let found = subst (λ due. IsDeviceDue router c.args.device due) c.in-Some.is (rw c.deref-2.ensures at c.due.ensures.due) in
    let before = subst (λ due. EmitsNoneBefore router c.args.device due) c.in-Some.is (rw c.deref-2.ensures at c.due.ensures.before) in
    inl (subst (λ (k : Course). TellsDue k c.args.device c.args.moment.now c.in-Some.due 0) c.get_mut-router.ensures.value
    (record { there = omega (arith, low, c.from.ensures, (rw c.deref.ensures at c.devices.ensures.count)); due = Some c.in-Some.due; is = found; before_is = before; fills = (refl, refl) }))

pub returns-in-None-clause-answer : goal.returns-in-None-clause-answer
returns-in-None-clause-answer c =
    let low : c.from.result < c.devices.result = grind arith in
    let router = c.get_mut-router.result.now in
    let found = subst (λ due. IsDeviceDue router c.args.device due) c.in-None.is (rw c.deref-2.ensures at c.due.ensures.due) in
    let before = subst (λ due. EmitsNoneBefore router c.args.device due) c.in-None.is (rw c.deref-2.ensures at c.due.ensures.before) in
    inl (subst (λ (k : Course). TellsDue k c.args.device c.args.moment.now c.args.moment.now 1) c.get_mut-router.ensures.value
    (record { there = omega (arith, low, c.from.ensures, (rw c.deref.ensures at c.devices.ensures.count)); due = None; is = found; before_is = before; fills = (refl, refl) }))
