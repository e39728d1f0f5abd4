use Rattle.std.proofs.Common.{◌≤◌, refl, subst, arith}
use Rattle.clk_router.specs.Course.{Course}
use Rattle.clickpull_c.specs.Answers.{HasNoDevice}
use Rattle.clickpull_c.specs.live.State.{done, refused}
use Rattle.clickpull_c.proofs.LiveSteps.{goes, stays-with}
use Rattle.clickpull_c.proofs.live.draining.drain.Goals as goal

pub returns-then-from-devices : goal.returns-then-from-devices
returns-then-from-devices c =
    let high : c.devices.result ≤ c.from.result = grind arith in
    let missing = subst (λ (k : Course). HasNoDevice k c.args.device 5) c.router.ensures.course (record { answers = refl; missing = omega (arith, high, c.from.ensures, (rw c.deref.ensures at c.devices.ensures.count)) }) in
    refused c.in-Some.live c.in-Some.is missing (stays-with c.args.router.now c.in-Some.live c.in-Some.is) (refl, refl)

pub returns : goal.returns
returns c = done c.in-Some.live c.drain_device.new.live (goes c.args.router.now c.in-Some.live c.drain_device.new.live c.in-Some.is) c.drain_device.ensures
