use Rattle.std.proofs.Common.{[], ◌∷◌, refl}
use Rattle.clk_inlet.specs.Items.{packet_item}
use Rattle.clk_live.proofs.examples.taken_examples.Goals as goal

pub returns-clause-evicted : goal.returns-clause-evicted
returns-clause-evicted c = record {
  before = packet_item 50 5 ∷ [];
  was = refl;
  items = refl;
  sender = refl;
  number = refl;
  goes_on = refl;
  evicted = record { place = 1; its_items = packet_item 50 5 ∷ packet_item 50 6 ∷ []; sender = refl; its = refl; item = refl };
}
