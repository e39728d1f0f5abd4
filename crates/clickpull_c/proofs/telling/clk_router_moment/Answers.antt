use Rattle.std.proofs.Common.{◌<◌, inl, refl, subst, arith}
use Rattle.clk_router.specs.Course.{Course}
use Rattle.clickpull_c.specs.Tells.{TellsMoment}
use Rattle.clickpull_c.proofs.telling.clk_router_moment.Goals as goal

pub returns-clause-answer : goal.returns-clause-answer
returns-clause-answer c =
    let low : c.from.result < c.devices.result = grind arith in
    inl (subst (λ (k : Course). TellsMoment k c.args.device c.moment.result 0) c.get_mut-router.ensures.value
    (record { answers = refl; there = omega (arith, low, c.from.ensures, (rw c.deref.ensures at c.devices.ensures.count)); filled_is = (rw c.deref-2.ensures at c.moment.ensures.moment) }))
