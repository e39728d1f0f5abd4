-- What queues hold and do, by number, and which of them are known to be empty.
use Rattle.std.specs.Prelude.{◌≡◌, ℕ, ◌≤◌, ◌*◌, ◌/◌, ◌%◌, List, [], length, false, ◌==◌, Option, Some, None, slice_get, slice_index}
use Rattle.std.specs.Int.{bit_at}
use Rattle.clk_packet.specs.declared.packet.Packet.{Packet}
use Rattle.clk_packet.specs.declared.packet.Offered.{Offered}
use Rattle.clk_ring.specs.Queue.{Queue, empty_queue, IsOffered, IsPulled as IsQueuePulled}
use Rattle.clk_tree.specs.PlanParts.{Queued}

-- an empty queue as a plan declares it
abbrev pub queue_made : Queued → Queue
queue_made q = empty_queue q.kind q.capacity

-- the packets that a queue holds, and none if it doesn't exist
abbrev pub packets_in : Option Queue → List Packet
packets_in None = []
packets_in (Some q) = q.packets

-- the packets that the queue with this number holds, and none if it doesn't exist
abbrev pub packets_at : List Queue → ℕ → List Packet
packets_at queues number = packets_in (slice_get queues number)

-- An offer with this outcome takes the old state of a queue to the new one.
abbrev pub OffersTo : Packet → Offered → Option Queue → Option Queue → Type 0
OffersTo p outcome None new = ⊥
OffersTo p outcome (Some old) None = ⊥
OffersTo p outcome (Some old) (Some new) = IsOffered old p outcome new

-- A pull with this result takes the old state of a queue to the new one. A queue that doesn't exist gives none.
abbrev pub PullsFrom : Option Packet → Option Queue → Option Queue → Type 0
PullsFrom got None new = (got ≡ None) × (new ≡ None)
PullsFrom got (Some old) None = ⊥
PullsFrom got (Some old) (Some new) = IsQueuePulled old got new

-- Only the queue of this number may have changed.
pub record ChangesOnly (old : List Queue) (number : ℕ) (new : List Queue) : Type 0 where
  pub count : length new ≡ length old
  pub others : (k : ℕ) → (number == k) ≡ false → slice_get new k ≡ slice_get old k

-- A packet is offered to the queue of this number, with this outcome. All other queues stay as they are.
pub record OffersAt (old : List Queue) (number : ℕ) (p : Packet) (outcome : Offered) (new : List Queue) : Type 0 where
  pub here : OffersTo p outcome (slice_get old number) (slice_get new number)
  pub only : ChangesOnly old number new

-- The queue of this number is pulled, with this result. All other queues stay as they are. A queue that doesn't exist gives none.
pub record GivesAt (old : List Queue) (number : ℕ) (got : Option Packet) (new : List Queue) : Type 0 where
  pub here : PullsFrom got (slice_get old number) (slice_get new number)
  pub only : ChangesOnly old number new

-- the bit of the queue with this number in words of 64 bits
abbrev pub bit_of : List ℕ → ℕ → ℕ
bit_of words q = bit_at (slice_index words (q / 64)) (q % 64)

-- Each queue has a bit in these words. A queue whose bit is 0 is empty.
abbrev pub AreFilled : List Queue → List ℕ → Type 0
AreFilled queues words = (length queues ≤ 64 * length words) × ((q : ℕ) → bit_of words q ≡ 0 → packets_at queues q ≡ [])
