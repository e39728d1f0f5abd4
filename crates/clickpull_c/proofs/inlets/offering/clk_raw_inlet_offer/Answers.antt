use Rattle.std.proofs.Common.{sym, subst}
use Rattle.clk_inlet.specs.Halves.{AreHalves}
use Rattle.clickpull_c.proofs.inlets.offering.clk_raw_inlet_offer.Goals as goal

pub returns-in-Ok-clause-halves : goal.returns-in-Ok-clause-halves
returns-in-Ok-clause-halves c = λ o h. c.offer.ensures.halves o (subst (λ i. AreHalves i o) (sym c.get_mut.ensures.value) h)

pub returns-in-Err-clause-halves : goal.returns-in-Err-clause-halves
returns-in-Err-clause-halves c = λ o h. c.offer.ensures.halves o (subst (λ i. AreHalves i o) (sym c.get_mut.ensures.value) h)
