-- The bytes of packets.
use Rattle.std.proofs.Common.{◌≡◌, ◌+◌, ◌*◌, ◌≤◌, List, [], ◌∷◌, ◌++◌, length, arith}
use Rattle.clk_packet.specs.declared.packet.Packet.{Packet}
use Rattle.clk_packet.specs.Counts.{bytes_of}

pub bytes-few : (packets : List Packet) → bytes_of packets ≤ 65535 * length packets
bytes-few [] = omega arith
bytes-few (p ∷ packets) = let few = bytes-few packets in let within = p.is_within in omega (arith, few, within)

pub bytes-append : (packets more : List Packet) → bytes_of (packets ++ more) ≡ bytes_of packets + bytes_of more
bytes-append [] more = omega arith
bytes-append (p ∷ packets) more = let e = bytes-append packets more in omega (arith, e)
