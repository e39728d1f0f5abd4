-- The senders of a trace, and whether a plan has them.
use Rattle.std.specs.Prelude.{◌≡◌, ◌&&◌, ℕ, not, nat_lt, List, length, map, find, suc, Option, Some}
use Rattle.std.specs.List.{range_with_len}
use Rattle.clk_packet.specs.declared.packet.Packet.{Packet}
use Rattle.clk_packet.specs.declared.fault.Fault.{Fault}
use Rattle.clk_packet.specs.declared.fault.Fault.TheVariants.{UnknownSender}
use Rattle.clk_packet.specs.declared.limits.TheConstants.{MAX_SENDER}
use Rattle.clk_packet.specs.Trace.{sent_by}
use Rattle.clk_packet.specs.Lists.{stands_in}
use Rattle.clk_tree.specs.Plan.{Planned}
use Rattle.clk_tree.specs.PlanParts.{senders_of, number_of}

-- the numbers of a plan's senders
abbrev pub senders_in : List Planned → List ℕ
senders_in plan = map number_of (senders_of plan)

-- the least sender that sends something and is none of `senders`, if there is one
unfoldable pub first_unknown : List ℕ → List (List Packet) → Option ℕ
first_unknown senders traces =
    find (λ s. nat_lt 0 (length (sent_by traces s)) && not (stands_in s senders)) (range_with_len 0 (suc MAX_SENDER))

-- Fault 15 names the least sender that sends something and is none of `senders`.
abbrev pub IsUnknownSender : List ℕ → List (List Packet) → Fault → Type 0
IsUnknownSender senders traces (UnknownSender s) = first_unknown senders traces ≡ Some s
IsUnknownSender senders traces fault = ⊥
