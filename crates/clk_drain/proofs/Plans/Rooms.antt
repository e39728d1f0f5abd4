-- Rooms are made for one sender after another, each for all that its sender sends.
use Rattle.std.proofs.Common.{◌≡◌, ℕ, ◌<◌, ◌≤◌, List, [], ◌∷◌, ◌++◌, length, drop, refl, ap, arith, rules}
use Rattle.clk_packet.specs.declared.packet.Packet.{Packet}
use Rattle.clk_packet.specs.declared.limits.TheConstants.{MAX_CAPACITY, MAX_RECORDS}
use Rattle.clk_packet.specs.Trace.{packets_in}
use Rattle.clk_packet.specs.Lists.{AreRising}
use Rattle.clk_ruled.specs.Rooms.{named_in, rooms_in_all}
use Rattle.clk_drain.specs.inside.Opening.{rooms_for}
use Rattle.clk_packet.proofs.Callers.Lists.{rising-distinct}
use Rattle.clk_gate.proofs.Callers.TraceSums.{within-trace}
use Rattle.clk_drain.proofs.Plans.TraceSums.{rooms-sent}

-- Rooms were made for the first so many of the senders. Where there is one, it is known how long a trace may be.
pub record AreRooms (traces : List (List Packet)) (senders : List ℕ) (made : List (ℕ × ℕ)) (i : ℕ) : Type 0 where
  pub are : made ++ rooms_for traces (drop i senders) ≡ rooms_for traces senders
  pub within : 0 < i → packets_in traces ≤ MAX_RECORDS

-- Senders that rise have rooms in which they rise, and which no trace exceeds.
pub rooms-named : (traces : List (List Packet)) (senders : List ℕ) → named_in (rooms_for traces senders) ≡ senders
rooms-named traces [] = refl
rooms-named traces (s ∷ senders) = ap (λ ns. s ∷ ns) (rooms-named traces senders)

pub rooms-few : (traces : List (List Packet)) (senders : List ℕ) → AreRising senders → (0 < length senders → packets_in traces ≤ MAX_RECORDS) → rooms_in_all (rooms_for traces senders) ≤ MAX_CAPACITY
rooms-few traces [] rise few = omega arith
rooms-few traces (s ∷ senders) rise few = search (rules, (rooms-sent traces (s ∷ senders)), (within-trace traces (s ∷ senders) (rising-distinct (s ∷ senders) rise)), (rising-distinct (s ∷ senders) rise))
