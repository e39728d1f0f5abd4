use Rattle.std.proofs.Common.{rules, ◌≡◌, ◌+◌, suc, subst, ap, arith}
use Rattle.clk_router.specs.Course.{Course}
use Rattle.clk_live_run.specs.inside.Consuming.{HasClosed}
use Rattle.clk_live_run.proofs.Closings.{closed-more, can-still-close}
use Rattle.clk_live_run.proofs.closing.close_devices.Goals as goal

pub drain-requires : goal.drain-requires
drain-requires g c =
    let so = c.loop-device.invariant in
    record {
      can = can-still-close c.args.live.now.course c.loop-device.live.course c.loop-device.device (ap (λ (x : Course). x.setup) so.goes_on) (so.others c.loop-device.device (omega arith)) (c.requires.can c.loop-device.device (let low : _ = search rules in low));
    }

pub loop-device-preserved : goal.loop-device-preserved
loop-device-preserved g c =
    let next : suc c.loop-device.device ≡ c.loop-device.device + 1 = omega arith in
    subst (λ n. HasClosed n c.args.live.now c.drain.new.live) next (closed-more c.loop-device.device c.args.live.now c.loop-device.live c.drain.new.live c.loop-device.invariant c.drain.ensures.drained)
