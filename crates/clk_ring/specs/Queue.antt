-- A queue as its callers see it, and what an offer and a pull do to it (Click: Queue, FrontDropQueue).
use Rattle.std.specs.Prelude.{◌≡◌, ℕ, ◌<◌, List, [], ◌∷◌, ◌++◌, length, Option, Some, None}
use Rattle.clk_packet.specs.declared.packet.Packet.{Packet}
use Rattle.clk_packet.specs.declared.packet.Kind.{Kind}
use Rattle.clk_packet.specs.declared.packet.Kind.TheVariants.{TailDrop, FrontDrop}
use Rattle.clk_packet.specs.declared.packet.Offered.{Offered}
use Rattle.clk_packet.specs.declared.packet.Offered.TheVariants.{Accepted, Refused, Evicted}

-- a queue as contracts see it: its kind, how many packets it may hold, and the packets that it holds, from the front
pub record Queue : Type 0 where
  pub kind : Kind
  pub capacity : ℕ
  pub packets : List Packet

-- an empty queue of this kind and capacity
abbrev pub empty_queue : Kind → ℕ → Queue
empty_queue kind capacity = record { kind = kind; capacity = capacity; packets = [] }

-- the queue with these packets in place of those that it holds
abbrev pub holding : Queue → List Packet → Queue
holding q packets = record { kind = q.kind; capacity = q.capacity; packets = packets }

-- What an offer does to a queue. With room left, the packet goes to the back. A full Queue refuses it and stays as it is. A full
-- FrontDropQueue evicts its front and accepts it.
abbrev pub IsOffered : Queue → Packet → Offered → Queue → Type 0
IsOffered old p Accepted new = (length old.packets < old.capacity) × (new ≡ holding old (old.packets ++ p ∷ []))
IsOffered old p (Refused q) new = (old.kind ≡ TailDrop) × (length old.packets ≡ old.capacity) × (q ≡ p) × (new ≡ old)
IsOffered old p (Evicted front) new =
    (old.kind ≡ FrontDrop) × (length old.packets ≡ old.capacity)
    × ((rest : List Packet) × (old.packets ≡ front ∷ rest) × (new ≡ holding old (rest ++ p ∷ [])))

-- What a pull does to a queue: it gives the packet at its front, or none exactly if it holds none.
abbrev pub IsPulled : Queue → Option Packet → Queue → Type 0
IsPulled old None new = (old.packets ≡ []) × (new ≡ old)
IsPulled old (Some p) new = (rest : List Packet) × (old.packets ≡ p ∷ rest) × (new ≡ holding old rest)
