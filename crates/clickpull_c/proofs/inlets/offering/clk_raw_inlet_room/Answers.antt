use Rattle.std.proofs.Common.{sym, subst}
use Rattle.clk_inlet.specs.Halves.{AreHalves}
use Rattle.clickpull_c.proofs.inlets.offering.clk_raw_inlet_room.Goals as goal

pub returns-clause-halves : goal.returns-clause-halves
returns-clause-halves c = λ o h. c.room.ensures.halves o (subst (λ i. AreHalves i o) (sym c.get_mut.ensures.value) h)
