use Rattle.clk_inlet.proofs.Halves.{sender_stays}
use Rattle.clk_inlet.proofs.inlet.Inlet.offer.Goals as goal

pub returns-clause-halves : goal.returns-clause-halves
returns-clause-halves c = λ o h. record { one_ring = sender_stays c.room_for.new.self.producer c.push_reserved.new.self o.consumer c.push_reserved.ensures.ring (c.room_for.ensures.halves o h).one_ring }
