use Rattle.std.specs.Vec.Iter.{into_iter_items}
use Rattle.clk_drain.proofs.Drains.ClosingSteps.{AreClosing}
use Rattle.clk_drain.proofs.running.closing.close_devices.Given as goal

abbrev pub invariant-loop-session : goal.invariant-loop-session
invariant-loop-session g l = AreClosing l.terms l.fn.closings.items l.yielded (into_iter_items l.session-iterator) l.outcome
