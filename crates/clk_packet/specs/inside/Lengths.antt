-- How traces are kept: the lengths of packets, by sender and then by number.
use Rattle.std.specs.Prelude.{◌≡◌, ℕ, ◌+◌, List, [], ◌∷◌, ◌++◌, length, get_or}
use Rattle.clk_packet.specs.declared.packet.Packet.{Packet}
use Rattle.clk_packet.specs.declared.lengths.Length.{Length}
use Rattle.clk_packet.specs.Trace.{sent_by, shown, sent_from, packets_in}

-- the packet of a sender, a number and a length
abbrev pub packet_of : ℕ → ℕ → Length → Packet
packet_of sender number l = record { number = number; sender = sender; length = l.bytes; has_length = l.has_bytes; is_within = l.is_within }

-- the packets of a sender, counted from a number on
abbrev pub packets_from : ℕ → ℕ → List Length → List Packet
packets_from sender number [] = []
packets_from sender number (l ∷ more) = packet_of sender number l ∷ packets_from sender (number + 1) more

-- the packets of each sender, if the senders are counted from a number on
abbrev pub packets_by : ℕ → List (List Length) → List (List Packet)
packets_by sender [] = []
packets_by sender (lengths ∷ more) = packets_from sender 0 lengths ∷ packets_by (sender + 1) more

-- how many lengths a table has in all
abbrev pub lengths_in : List (List Length) → ℕ
lengths_in [] = 0
lengths_in (lengths ∷ more) = length lengths + lengths_in more

-- a table with more rows, and no more lengths
pub record IsWider (old new : List (List Length)) : Type 0 where
  pub each : (s : ℕ) → get_or new s [] ≡ get_or old s []
  pub total : lengths_in new ≡ lengths_in old

-- traces with a packet more, the next of its sender
pub record IsAdded (old : List (List Packet)) (sender size : ℕ) (new : List (List Packet)) : Type 0 where
  pub each : (s : ℕ) → shown (sent_by new s) ≡ shown (sent_by old s) ++ sent_from s (length (sent_by old s)) ((sender, size) ∷ [])
  pub total : packets_in new ≡ packets_in old + 1
