use Rattle.std.specs.List.{AllByRecursion}
use Rattle.clk_drain.specs.inside.Devices.{AreOpenFrom, KeepsSo}
use Rattle.clk_drain.proofs.running.devices.open_devices.Given as goal

abbrev pub invariant-loop-device : goal.invariant-loop-device
invariant-loop-device l = AreOpenFrom l.plan l.traces 0 l.device l.queues.items l.seats.items l.ends.items × AllByRecursion (KeepsSo l.keeps) l.ends.items
