-- When two packets are the same.
use Rattle.std.proofs.Common.{◌≡◌, ◌≤◌}
use Rattle.std.proofs.Math.Bridge.{le_prop}
use mathlib.Core.HLevel.{is_prop→PathP}
use Rattle.clk_packet.specs.declared.limits.TheConstants.{MAX_LENGTH}
use Rattle.clk_packet.specs.declared.packet.Packet.{Packet}

-- two packets with the same number, sender and length
pub packet-same : (p q : Packet) → p.number ≡ q.number → p.sender ≡ q.sender → p.length ≡ q.length → p ≡ q
packet-same p q number sender size = λ i. record {
  number = number i;
  sender = sender i;
  length = size i;
  has_length = is_prop→PathP (λ j. 1 ≤ size j) (λ j. le_prop) p.has_length q.has_length i;
  is_within = is_prop→PathP (λ j. size j ≤ MAX_LENGTH) (λ j. le_prop) p.is_within q.is_within i;
}
