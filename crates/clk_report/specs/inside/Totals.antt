-- A table of totals, by the numbers of senders, and totals of which there is a sum.
use Rattle.std.specs.Prelude.{◌≡◌, ℕ, ◌+◌, ◌*◌, ◌^◌, ◌<◌, ◌≤◌, List, length, Some, slice_get}
use Rattle.clk_packet.specs.Counts.{total_of}
use Rattle.clk_packet.specs.declared.limits.TheConstants.{MAX_LENGTH}
use Rattle.clk_packet.specs.Dealt.{IsDealt}
use Rattle.clk_packet.specs.Lists.{of_sender}
use Rattle.clk_packet.specs.declared.counts.Counts.{Counts}
use Rattle.clk_packet.specs.declared.counts.Total.{Total}
use Rattle.clk_packet.specs.declared.packet.Packet.{Packet}
use Rattle.clk_packet.specs.declared.tally.Tally.{Tally}

-- a total with one packet more
abbrev pub with_packet : Packet → Total ℕ → Total ℕ
with_packet p total = record { packets = total.packets + 1; bytes = total.bytes + p.length }

-- There is room to count `more` more packets.
pub record HasRoom (more : ℕ) (total : Total ℕ) : Type 0 where
  pub packets : total.packets + more < 2 ^ 128
  pub bytes : total.bytes + MAX_LENGTH * more < 2 ^ 128

-- The total of what was sent has room in 128 bits.
pub record FitsSent (c : Counts ℕ) : Type 0 where
  pub packets : c.accepted.packets + c.refused.packets < 2 ^ 128
  pub bytes : c.accepted.bytes + c.refused.bytes < 2 ^ 128

-- the table has the total of each sender's packets at the sender's number
pub record AreTotals (packets : List Packet) (totals : List (Total ℕ)) : Type 0 where
  pub each : (s : ℕ) → s < length totals → slice_get totals s ≡ Some (total_of (of_sender s packets))

-- Of each sender whose number is below n, both lists have the same packets, in order.
abbrev pub TellsBelow : ℕ → List Packet → List Packet → Type 0
TellsBelow n told emitted = (s : ℕ) → s < n → of_sender s told ≡ of_sender s emitted

-- The tally accounts for what was emitted of its sender, if the sender's number isn't below n.
abbrev pub AccountsBeyond : ℕ → List Packet → Tally → Type 0
AccountsBeyond n emitted t = n ≤ t.sender → IsDealt t.accepted t.evicted (of_sender t.sender emitted)
