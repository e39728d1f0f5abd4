-- Lists with a member for each device, by the devices' rising numbers.
use Rattle.std.specs.Prelude.{List, map, Vec}
use Rattle.std.specs.List.{flat_map}
use Rattle.std.specs.declared.alloc.Global.{Global}
use Rattle.clk_packet.specs.declared.packet.Packet.{Packet}

-- the lists of values in these vectors
abbrev pub lists_of : {X : Type 0} → List (Vec X Global) → List (List X)
lists_of lists = map (λ l. l.items) lists

-- all packets that were emitted, at whichever device
abbrev pub all_emitted : List (Vec Packet Global) → List Packet
all_emitted emitted = flat_map (λ (packets : Vec Packet Global). packets.items) emitted
