-- What is counted of packets: how many they are, and their bytes.
use Rattle.std.specs.Prelude.{ℕ, ◌+◌, List, [], ◌∷◌, length}
use Rattle.clk_packet.specs.declared.counts.Counts.{Counts}
use Rattle.clk_packet.specs.declared.counts.Total.{Total}
use Rattle.clk_packet.specs.declared.packet.Packet.{Packet}
use Rattle.clk_packet.specs.declared.tally.Tally.{Tally}
use Rattle.clk_packet.specs.Lists.{of_sender}

-- the sum of the lengths of packets, in bytes
abbrev pub bytes_of : List Packet → ℕ
bytes_of [] = 0
bytes_of (p ∷ packets) = p.length + bytes_of packets

-- how many packets these are, and their bytes
abbrev pub total_of : List Packet → Total ℕ
total_of packets = record { packets = length packets; bytes = bytes_of packets }

-- the counts of a tally, if these packets were emitted at all devices
abbrev pub counts_of : List Packet → Tally → Counts ℕ
counts_of emitted t = record {
  sender = t.sender;
  accepted = total_of t.accepted;
  refused = total_of t.refused;
  evicted = total_of t.evicted;
  emitted = total_of (of_sender t.sender emitted);
}
