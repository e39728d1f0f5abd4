use Rattle.std.specs.Vec.Iter.{into_iter_items}
use Rattle.clk_drain.proofs.Threads.HandSteps.{AreOpenLines}
use Rattle.clk_drain.proofs.running.open_lines.open_lines_for.Given as goal

abbrev pub invariant-loop-tap : goal.invariant-loop-tap
invariant-loop-tap l = AreOpenLines l.queues l.fn.taps.items l.open_lines.items l.place (into_iter_items l.tap-iterator)
