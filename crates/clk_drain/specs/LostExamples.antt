-- Queues that lost packets, and which of them fault 21 may name.
use Rattle.std.specs.Prelude.{ℕ, List, [], ◌∷◌, map}
use Rattle.std.proofs.Common.{lit≤}
use Rattle.atomic_table.specs.Seated.{TableId}
use Rattle.clk_packet.specs.Packets.{packet}
use Rattle.clk_packet.specs.declared.packet.Packet.{Packet}
use Rattle.clk_packet.specs.declared.packet.Kind.{Kind}
use Rattle.clk_packet.specs.declared.packet.Kind.TheVariants.{TailDrop, FrontDrop}
use Rattle.clk_packet.specs.declared.fault.Fault.{Fault}
use Rattle.clk_ruled.specs.Queue.{setup_of}
use Rattle.clk_sched.specs.Examples.Priority.{p0_0, p1_0}
use Rattle.clk_drain.specs.Examples.{p0_1}
use Rattle.clk_drain.specs.Lost.{SeatedQueue, NamesFirstLost}

-- the second packet of sender 1
abbrev pub p1_1 : Packet
p1_1 = packet 1 1 70 (lit≤ tt) (lit≤ tt)

-- a queue with one seat, whose sender has the number of the leaf and offered `offered` packets
abbrev one_seat : (leaf : ℕ) → Kind → (capacity offered : ℕ) → (accepted refused evicted : List Packet) → TableId → SeatedQueue
one_seat leaf kind capacity offered accepted refused evicted id =
    record {
      queue = record { leaf = leaf; kind = kind; capacity = capacity; senders = leaf ∷ [] };
      seats =
          record { id = id; setup = setup_of kind capacity ((leaf, offered) ∷ []); sender = leaf; room = offered; next = offered; accepted = accepted; refused = refused; evicted = evicted } ∷ [];
    }

-- This fault may name the first of the queues that lost packets below its capacity.
abbrev pub MayName : List (TableId → SeatedQueue) → Fault → Type 0
MayName queues fault = (id : TableId) → NamesFirstLost (map (λ (q : TableId → SeatedQueue). q id) queues) fault

-- This fault never names the first of the queues that lost packets below its capacity.
abbrev pub NeverNames : List (TableId → SeatedQueue) → Fault → Type 0
NeverNames queues fault = (id : TableId) → ¬ (NamesFirstLost (map (λ (q : TableId → SeatedQueue). q id) queues) fault)

-- A Queue of some capacity at leaf 0 accepted the first packet of sender 0, and refused the second.
abbrev pub refusing : ℕ → TableId → SeatedQueue
refusing capacity = one_seat 0 TailDrop capacity 2 (p0_0 ∷ []) (p0_1 ∷ []) []

-- A FrontDropQueue of some capacity at leaf 1 accepted both packets of sender 1, and evicted the first.
abbrev pub evicting : ℕ → TableId → SeatedQueue
evicting capacity = one_seat 1 FrontDrop capacity 2 (p1_0 ∷ p1_1 ∷ []) [] (p1_0 ∷ [])

-- A Queue of three packets at leaf 0 accepted both packets of sender 0.
abbrev pub none_lost : TableId → SeatedQueue
none_lost = one_seat 0 TailDrop 3 2 (p0_0 ∷ p0_1 ∷ []) [] []

-- A FrontDropQueue of three packets at leaf 1 evicted a packet that it never accepted.
abbrev pub evicting_another : TableId → SeatedQueue
evicting_another = one_seat 1 FrontDrop 3 2 (p1_0 ∷ p1_1 ∷ []) [] (p0_0 ∷ [])
