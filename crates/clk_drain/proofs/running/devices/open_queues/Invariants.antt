use Rattle.std.proofs.Common.{◌≡◌}
use Rattle.clk_tree.specs.PlanParts.{queues_of}
use Rattle.clk_drain.proofs.Threads.DeviceSteps.{AreOpening}
use Rattle.clk_drain.proofs.running.devices.open_queues.Given as goal

abbrev pub invariant-loop-queue : goal.invariant-loop-queue
invariant-loop-queue l = AreOpening l.traces l.device (queues_of l.plan) l.opened l.leaf × (l.leaf ≡ l.queue-index)
