use Rattle.std.specs.Vec.Iter.{into_iter_items}
use Rattle.clk_drain.proofs.Drains.SettleSteps.{AreSettling}
use Rattle.clk_drain.proofs.closing.settle_each.Given as goal

abbrev pub invariant-loop-line : goal.invariant-loop-line
invariant-loop-line l = AreSettling l.fn.lines.items l.yielded (into_iter_items l.line-iterator) l.tallies.items
