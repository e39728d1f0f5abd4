use Rattle.std.proofs.Common.{arith}
use Rattle.clk_ruled_tests.proofs.shared.Shared.offer.Goals as goal

pub offer-requires-clause-together : goal.offer-requires-clause-together
offer-requires-clause-together g c = c.calls_keep_together.ensures.seats c.self.inside.queue c.self.inside.tap c.self.inside.seats.items c.args.place c.index_mut-seat.result.now (omega arith) c.index_mut-seat.ensures.value c.self.invariant

pub invariant_of-self : goal.invariant_of-self
invariant_of-self g c =
    c.calls_keep_together.ensures.offered c.self.inside.queue c.self.inside.tap c.self.inside.seats.items c.args.place c.index_mut-seat.result.now c.offer.new.self c.packet-next.result c.offer.result (omega arith) c.index_mut-seat.ensures.value c.offer.ensures.offered c.self.invariant
