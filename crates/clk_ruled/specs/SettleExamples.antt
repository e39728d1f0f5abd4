-- What settling worked queues tells, what it never tells, and why it fails.
use Rattle.std.specs.Prelude.{ℕ, true, false, List, [], ◌∷◌, map}
use Rattle.atomic_table.specs.Seated.{TableId}
use Rattle.clk_packet.specs.declared.packet.Packet.{Packet}
use Rattle.clk_packet.specs.declared.packet.Kind.TheVariants.{TailDrop, FrontDrop}
use Rattle.clk_packet.specs.declared.tally.Tally.{Tally}
use Rattle.clk_packet.specs.declared.fault.Fault.{Fault}
use Rattle.clk_ruled.specs.declared.view.QueueSetup.{QueueSetup}
use Rattle.clk_ruled.specs.Queue.{TapLists, ClosedLists, setup_of}
use Rattle.clk_ruled.specs.Settle.{IsSettled, IsFaultOfSettle}
use Rattle.clk_ruled.specs.Examples.{p0_0, p0_1, p1_0, p1_1, put_out}

-- a queue whose seats are closed
pub record ClosedQueue : Type 0 where
  pub tap : TapLists
  pub seats : List ClosedLists

-- Settling the queue may tell that these packets were pulled, and these tallies.
abbrev pub MayTell : (TableId → ClosedQueue) → List Packet → List Tally → Type 0
MayTell queue taken tallies = (id : TableId) → IsSettled (queue id).tap (queue id).seats taken tallies

-- Settling the queue never tells that these packets were pulled, and these tallies.
abbrev pub NeverTells : (TableId → ClosedQueue) → List Packet → List Tally → Type 0
NeverTells queue taken tallies = (id : TableId) → ¬ (IsSettled (queue id).tap (queue id).seats taken tallies)

-- Settling the queue of this number may fail with this fault.
abbrev pub MayRefuse : (TableId → ClosedQueue) → ℕ → Fault → Type 0
MayRefuse queue index fault = (id : TableId) → IsFaultOfSettle (queue id).tap (queue id).seats index fault

-- Settling the queue of this number never fails with this fault.
abbrev pub NeverRefuses : (TableId → ClosedQueue) → ℕ → Fault → Type 0
NeverRefuses queue index fault = (id : TableId) → ¬ (IsFaultOfSettle (queue id).tap (queue id).seats index fault)

-- a closed seat: its sender, how many packets it offered, which are all that it may, and its lists
abbrev pub seat : (sender offered : ℕ) → (accepted refused evicted : List Packet) → TableId → QueueSetup → ClosedLists
seat sender offered accepted refused evicted id setup =
    record {
      lists = record { id = id; setup = setup; sender = sender; room = offered; next = offered; accepted = accepted; refused = refused; evicted = evicted };
      is_gathered = false;
    }

-- a queue whose seats are closed, by its setup, the packets pulled, and its seats
abbrev closed_queue : QueueSetup → List Packet → List (TableId → QueueSetup → ClosedLists) → TableId → ClosedQueue
closed_queue setup taken seats id =
    record { tap = record { id = id; setup = setup; keeps = true; taken = taken; gathered = [] }; seats = map (λ (s : TableId → QueueSetup → ClosedLists). s id setup) seats }

abbrev tally : ℕ → (accepted refused evicted : List Packet) → Tally
tally s accepted refused evicted = record { sender = s; accepted = accepted; refused = refused; evicted = evicted }

-- A FrontDropQueue of some capacity accepted two packets of each of its senders, and evicted the first for one of sender 1.
abbrev pub front_dropped : ℕ → List Packet → TableId → ClosedQueue
front_dropped capacity taken =
    closed_queue (setup_of FrontDrop capacity ((0, 2) ∷ (1, 2) ∷ [])) taken
    (seat 0 2 (p0_0 ∷ p0_1 ∷ []) [] [] ∷ seat 1 2 (p1_0 ∷ p1_1 ∷ []) [] put_out ∷ [])

abbrev pub front_tallies : List Tally
front_tallies = tally 0 (p0_0 ∷ p0_1 ∷ []) [] put_out ∷ tally 1 (p1_0 ∷ p1_1 ∷ []) [] [] ∷ []

-- the tallies of `front_dropped`, but the evicted packet counts at the seat for which it was evicted, and not at its sender
abbrev pub told_at_seat : List Tally
told_at_seat = tally 0 (p0_0 ∷ p0_1 ∷ []) [] [] ∷ tally 1 (p1_0 ∷ p1_1 ∷ []) [] put_out ∷ []

-- the packets of sender 1, pulled the second before the first
abbrev pub newer_first : List Packet
newer_first = p1_1 ∷ p1_0 ∷ []

-- A FrontDropQueue of some capacity accepted one packet of sender 1 and refused the other, though such a queue refuses none.
abbrev pub front_refused : ℕ → TableId → ClosedQueue
front_refused capacity =
    closed_queue (setup_of FrontDrop capacity ((0, 2) ∷ (1, 2) ∷ [])) (p0_1 ∷ [])
    (seat 0 2 (p0_0 ∷ p0_1 ∷ []) [] [] ∷ seat 1 2 (p1_0 ∷ []) (p1_1 ∷ []) put_out ∷ [])

abbrev pub with_refused : List Tally
with_refused = tally 0 (p0_0 ∷ p0_1 ∷ []) [] put_out ∷ tally 1 (p1_0 ∷ []) (p1_1 ∷ []) [] ∷ []

-- A Queue of some capacity accepted the first packet of its one sender, and refused the second.
abbrev pub tail_dropped : ℕ → List Packet → TableId → ClosedQueue
tail_dropped capacity taken = closed_queue (setup_of TailDrop capacity ((0, 2) ∷ [])) taken (seat 0 2 (p0_0 ∷ []) (p0_1 ∷ []) [] ∷ [])

abbrev pub tail_tallies : List Tally
tail_tallies = tally 0 (p0_0 ∷ []) (p0_1 ∷ []) [] ∷ []

-- a FrontDropQueue of two packets with the seat of a Queue, which refused a packet
abbrev pub seat_of_a_queue : TableId → ClosedQueue
seat_of_a_queue id =
    record {
      tap = record { id = id; setup = setup_of FrontDrop 2 ((0, 2) ∷ []); keeps = true; taken = []; gathered = [] };
      seats = seat 0 2 (p0_0 ∷ []) (p0_1 ∷ []) [] id (setup_of TailDrop 2 ((0, 2) ∷ [])) ∷ [];
    }

-- a Queue that accepted all that was offered
abbrev pub none_lost : ℕ → TableId → ClosedQueue
none_lost capacity = closed_queue (setup_of TailDrop capacity ((0, 1) ∷ [])) [] (seat 0 1 (p0_0 ∷ []) [] [] ∷ [])

-- A FrontDropQueue of two packets was opened with a second seat of its sender, for which packets were evicted. The account, which looks at
-- a sender's first seat, knows nothing of these.
abbrev pub seated_twice : List Packet → List Packet → TableId → ClosedQueue
seated_twice out taken =
    closed_queue (setup_of FrontDrop 2 ((0, 2) ∷ (0, 0) ∷ [])) taken (seat 0 2 (p0_0 ∷ p0_1 ∷ []) [] [] ∷ seat 0 0 [] [] out ∷ [])

abbrev pub twice_tallies : List Packet → List Tally
twice_tallies out_of_first = tally 0 (p0_0 ∷ p0_1 ∷ []) [] out_of_first ∷ tally 0 [] [] [] ∷ []

abbrev pub newer_out : List Packet
newer_out = p0_1 ∷ []

abbrev pub stranger_out : List Packet
stranger_out = p1_0 ∷ []
