use Rattle.clk_live_run.specs.inside.Consuming.{HasClosed}
use Rattle.clk_live_run.proofs.closing.close_devices.Given as goal

abbrev pub invariant-loop-device : goal.invariant-loop-device
invariant-loop-device g l = HasClosed l.device l.fn.live l.live
