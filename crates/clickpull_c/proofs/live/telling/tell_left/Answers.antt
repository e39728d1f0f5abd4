use Rattle.std.proofs.Common.{◌≡◌, ◌<◌, ◌≤◌, refl, subst, arith}
use Rattle.clk_router.specs.Course.{Course}
use Rattle.clickpull_c.specs.Answers.{HasNoDevice}
use Rattle.clickpull_c.specs.Tells.{TellsLeft}
use Rattle.clickpull_c.proofs.LiveSteps.{told, untold}
use Rattle.clickpull_c.proofs.live.telling.tell_left.Goals as goal

pub returns-then-from-devices : goal.returns-then-from-devices
returns-then-from-devices c =
    let high : c.devices.result ≤ c.from.result = grind arith in
    untold c.args.router.now c.in-Some.live 5 (λ s. TellsLeft s.course c.args.device c.args.packets.now 5) (λ s. HasNoDevice s.course c.args.device 5) (c.args.packets.now ≡ c.args.packets.now) c.in-Some.is
    (subst (λ (k : Course). HasNoDevice k c.args.device 5) c.router-router.ensures.course (record { answers = refl; missing = omega (arith, high, c.from.ensures, (rw c.deref.ensures at c.devices.ensures.count)) })) refl

pub returns : goal.returns
returns c =
    let low : c.from.result < c.devices.result = grind arith in
    told c.args.router.now c.in-Some.live 0 (λ s. TellsLeft s.course c.args.device c.left.result 0) (λ s. HasNoDevice s.course c.args.device 0) (c.left.result ≡ c.args.packets.now) c.in-Some.is
    (subst (λ (k : Course). TellsLeft k c.args.device c.left.result 0) c.router-router.ensures.course (record { answers = refl; there = omega (arith, low, c.from.ensures, (rw c.deref.ensures at c.devices.ensures.count)); filled_is = (rw c.deref-2.ensures at c.left.ensures) }))
