-- Lists of packets.
use Rattle.std.specs.Prelude.{◌≡◌, ◌==◌, ◌&&◌, Bool, false, List, [], ◌∷◌, filter, not, ⊤}
use Rattle.std.specs.List.{list_any}
use Rattle.clk_packet.specs.declared.packet.Packet.{Packet}
pub use Rattle.clk_packet.specs.Dealt.{packet_numbers}

-- whether two packets are one: the same sender, and the same number
abbrev pub is_packet : Packet → Packet → Bool
is_packet p q = (p.sender == q.sender) && (p.number == q.number)

-- whether the packet stands in the list
abbrev pub has_packet : List Packet → Packet → Bool
has_packet packets p = list_any (is_packet p) packets

-- the packets of the first list that don't stand in the second
abbrev pub without : List Packet → List Packet → List Packet
without packets away = filter (λ p. not (has_packet away p)) packets

-- no packet stands twice in the list
abbrev pub IsOnceEach : List Packet → Type 0
IsOnceEach [] = ⊤
IsOnceEach (p ∷ packets) = (has_packet packets p ≡ false) × IsOnceEach packets
