use Rattle.std.proofs.Common.{[], ◌∷◌, Some, refl}
use Rattle.clk_sched.specs.Examples.Priority.{p0_0}
use Rattle.clk_sched.specs.Log.{asking}
use Rattle.clk_inlet.specs.Items.{packet_item}
use Rattle.clk_live.proofs.examples.pulled_examples.Goals as goal

pub returns-clause-emitted : goal.returns-clause-emitted
returns-clause-emitted c = record {
  pulled = record { visits = asking 0 0 0 0 (Some p0_0) ∷ []; result = refl; goes_on = refl };
  token = record { place = 0; its_items = packet_item 100 7 ∷ []; sender = refl; its = refl; item = refl };
  items = refl;
}
