use Rattle.std.proofs.Common.{[], ◌∷◌, refl}
use Rattle.clk_inlet.specs.Items.{packet_item}
use Rattle.clk_live.proofs.examples.token_examples.Goals as goal

pub returns-clause-first : goal.returns-clause-first
returns-clause-first c = record { place = 0; its_items = packet_item 100 7 ∷ packet_item 100 8 ∷ []; sender = refl; its = refl; item = refl }

pub returns-clause-second : goal.returns-clause-second
returns-clause-second c = record { place = 0; its_items = packet_item 100 7 ∷ packet_item 100 8 ∷ []; sender = refl; its = refl; item = refl }

pub returns-clause-other_sender : goal.returns-clause-other_sender
returns-clause-other_sender c = record { place = 1; its_items = packet_item 50 9 ∷ []; sender = refl; its = refl; item = refl }
