-- What the senders of a run send together.
use Rattle.std.specs.Prelude.{ℕ, ◌+◌, List, [], ◌∷◌, length}
use Rattle.clk_packet.specs.declared.packet.Packet.{Packet}
use Rattle.clk_packet.specs.Trace.{sent_by}

-- how many packets these senders send together
abbrev pub sent_in : List (List Packet) → List ℕ → ℕ
sent_in traces [] = 0
sent_in traces (s ∷ senders) = length (sent_by traces s) + sent_in traces senders
