-- The items of worked inlets.
use Rattle.std.specs.Prelude.{List, [], ◌∷◌}
use Rattle.clk_inlet.specs.declared.item.Item.{Item}
use Rattle.clk_inlet.specs.Items.{packet_item}

-- a packet of 100 bytes, with token 7
abbrev pub first : Item
first = packet_item 100 7

-- a packet of 100 bytes, with token 8
abbrev pub second : Item
second = packet_item 100 8

-- a packet of the greatest length, and one that is a byte longer
abbrev pub longest : Item
longest = packet_item 65535 7

abbrev pub too_long : Item
too_long = packet_item 65536 7

-- the end of a sender's packets
abbrev pub the_end : Item
the_end = packet_item 0 0

-- one packet that went through before
abbrev pub one_packet : List Item
one_packet = first ∷ []

-- the end alone, which went through before
abbrev pub just_ended : List Item
just_ended = the_end ∷ []

-- two packets and the end, which went through before
abbrev pub ended : List Item
ended = first ∷ second ∷ the_end ∷ []

-- the end stands before the last item
abbrev pub ended_early : List Item
ended_early = first ∷ the_end ∷ second ∷ []
