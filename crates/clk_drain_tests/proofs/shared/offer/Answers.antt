use Rattle.std.proofs.Common.{sym, subst, arith}
use Rattle.clk_ruled.specs.Queue.{SeatLists, IsOffered}
use Rattle.clk_drain_tests.proofs.shared.offer.Goals as goal

pub returns : goal.returns
returns g c =
    let offered = subst (λ (l : SeatLists). IsOffered l c.packet-next.result c.offer.result c.offer.new.self) (sym c.index-seats-place.is) c.offer.ensures.offered in
    c.calls_keep_together.ensures.offered c.args.queue.now c.args.tap.now c.args.seats.now c.args.place c.index-seats-place.result c.offer.new.self c.packet-next.result c.offer.result (omega arith) c.index-seats-place.is offered c.requires
