-- Packets written out, for worked examples.
use Rattle.std.specs.Prelude.{ℕ, ◌≤◌}
use Rattle.clk_packet.specs.declared.limits.TheConstants.{MAX_LENGTH}
use Rattle.clk_packet.specs.declared.packet.Packet.{Packet}

-- the packet number n of sender s, of length l
abbrev pub packet : (s n l : ℕ) → 1 ≤ l → l ≤ MAX_LENGTH → Packet
packet s n l some within = record { number = n; sender = s; length = l; has_length = some; is_within = within }
