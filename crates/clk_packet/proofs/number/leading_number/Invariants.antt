use Rattle.std.proofs.Common.{◌≡◌, ◌≤◌, drop}
use Rattle.clk_packet.proofs.NumberLemmas.{Leads}
use Rattle.clk_packet.proofs.number.leading_number.Given as goal

abbrev pub invariant-loop-byte : goal.invariant-loop-byte
invariant-loop-byte l = record { leads : Leads l.text l.number (drop l.byte-index l.text) l.len; small : l.number ≤ l.most; len : l.len ≡ l.byte-index }
