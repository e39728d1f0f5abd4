-- What happens to one queue on one thread, as a list of events (Click: Queue, FrontDropQueue).
use Rattle.std.specs.Prelude.{◌≡◌, ℕ, ◌≤◌, List, [], ◌∷◌, ◌++◌, length, drop, ⊤, Option, Some, None}
use Rattle.clk_packet.specs.declared.packet.Packet.{Packet}
use Rattle.clk_packet.specs.declared.packet.Kind.{Kind}
use Rattle.clk_packet.specs.declared.packet.Kind.TheVariants.{TailDrop, FrontDrop}
use Rattle.clk_packet.specs.declared.packet.Offered.{Offered}
use Rattle.clk_packet.specs.declared.packet.Offered.TheVariants.{Accepted, Refused, Evicted}

-- What can happen to a queue: a packet is accepted at the back, refused, evicted from the front, or given from the front to a pull; or a
-- pull finds the queue empty.
pub data QueueEvent : Type 0 where
  accept : Packet → QueueEvent
  refuse : Packet → QueueEvent
  evict : Packet → QueueEvent
  give : Packet → QueueEvent
  empty : QueueEvent

-- the packets that were accepted, in order
abbrev pub accepted : List QueueEvent → List Packet
accepted [] = []
accepted (accept p ∷ events) = p ∷ accepted events
accepted (event ∷ events) = accepted events

-- the packets that left the queue, evicted or given, in order
abbrev pub gone : List QueueEvent → List Packet
gone [] = []
gone (evict p ∷ events) = p ∷ gone events
gone (give p ∷ events) = p ∷ gone events
gone (event ∷ events) = gone events

-- the packets that the queue holds: those accepted, without the first ones, which left
abbrev pub held : List QueueEvent → List Packet
held events = drop (length (gone events)) (accepted events)

-- A queue is first in, first out, and holds no more than its capacity: what it accepted is what left it, and then what it holds.
pub record IsInOrder (capacity : ℕ) (events : List QueueEvent) : Type 0 where
  pub order : accepted events ≡ gone events ++ held events
  pub fits : length (held events) ≤ capacity

-- When an event may happen, while these packets are held: only a full Queue refuses, only a full FrontDropQueue evicts, and only an empty
-- queue is found empty.
abbrev pub MayStand : Kind → ℕ → List Packet → QueueEvent → Type 0
MayStand kind capacity holding (refuse p) = (kind ≡ TailDrop) × (length holding ≡ capacity)
MayStand kind capacity holding (evict p) = (kind ≡ FrontDrop) × (length holding ≡ capacity)
MayStand kind capacity holding empty = holding ≡ []
MayStand kind capacity holding event = ⊤

-- an eviction is followed at once by the acceptance that forced it
abbrev pub IsFollowedUp : QueueEvent → List QueueEvent → Type 0
IsFollowedUp (evict p) (accept q ∷ after) = ⊤
IsFollowedUp (evict p) after = ⊥
IsFollowedUp event after = ⊤

-- each of these events may happen after those before it
abbrev pub EachStands : Kind → ℕ → List QueueEvent → List QueueEvent → Type 0
EachStands kind capacity before [] = IsInOrder capacity before
EachStands kind capacity before (event ∷ after) =
    IsInOrder capacity before × MayStand kind capacity (held before) event × IsFollowedUp event after × EachStands kind capacity (before ++ event ∷ []) after

-- What can happen to a queue of this kind and capacity, from the time it was made. It is first in, first out, refuses or evicts only when
-- it is full, and gives none only when it is empty.
abbrev pub IsQueueHistory : Kind → ℕ → List QueueEvent → Type 0
IsQueueHistory kind capacity events = EachStands kind capacity [] events

-- what an offer with this outcome adds to the history of its queue
abbrev pub offer_events : Packet → Offered → List QueueEvent
offer_events p Accepted = accept p ∷ []
offer_events p (Refused q) = refuse p ∷ []
offer_events p (Evicted front) = evict front ∷ accept p ∷ []

-- a refusal names the packet that was offered
abbrev pub NamesOffer : Packet → Offered → Type 0
NamesOffer p (Refused q) = q ≡ p
NamesOffer p outcome = ⊤

-- what a pull with this result adds to the history of its queue
abbrev pub pull_event : Option Packet → QueueEvent
pull_event None = empty
pull_event (Some p) = give p
