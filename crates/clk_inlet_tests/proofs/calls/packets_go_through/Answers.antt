use Rattle.clk_inlet_tests.proofs.calls.packets_go_through.Goals as goal

pub beside-requires : goal.beside-requires
beside-requires g c = record { halves = c.room-2.ensures.halves _ (c.offer_many.ensures.halves _ (c.offer.ensures.halves _ (c.room.ensures.halves _ c.in_ok-inlet.ensures.halves))) }
