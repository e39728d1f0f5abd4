use Rattle.std.proofs.Common.{arith}
use Rattle.clk_ruled_tests.proofs.shared.Closed.gather.Goals as goal

pub gather-requires-clause-seat : goal.gather-requires-clause-seat
gather-requires-clause-seat g c = c.calls_keep_together.ensures.closed c.self.inside.queue c.self.inside.tap c.self.inside.seats.items c.args.place c.index_mut.result.now (omega arith) c.index_mut.ensures.value c.self.invariant

pub invariant_of-self : goal.invariant_of-self
invariant_of-self g c =
    c.calls_keep_together.ensures.gathered c.self.inside.queue c.self.inside.tap c.gather.new.self c.self.inside.seats.items c.args.place c.index_mut.result.now c.gather.new.seat (omega arith) c.index_mut.ensures.value c.gather.ensures.seat c.gather.ensures.gathers c.gather.ensures.again c.self.invariant
