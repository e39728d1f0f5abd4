-- Which packets of each queue are inside a router: those that its device's tree holds as heads, and then those that the queue holds.
use Rattle.std.specs.Prelude.{◌≡◌, ℕ, ◌+◌, ◌<◌, ◌≤◌, nat_lt, Bool, true, false, List, [], ◌∷◌, ◌++◌, length, filter, drop, ◌==◌, Option, Some, None, MatchOption, ⊤, slice_get}
use Rattle.std.specs.List.{filter_map, cons_option, list_any, AllByRecursion}
use Rattle.clk_packet.specs.declared.packet.Packet.{Packet}
use Rattle.clk_packet.specs.declared.packet.Offered.{Offered}
use Rattle.clk_packet.specs.declared.packet.Offered.TheVariants.{Accepted, Refused, Evicted}
use Rattle.clk_packet.specs.Dealt.{packet_numbers}
use Rattle.clk_packet.specs.Lists.{of_sender, stands_in, are_distinct}
use Rattle.clk_ring.specs.QueueHistory.{QueueEvent, give, held}
use Rattle.clk_sched.specs.declared.visit.Visit.{Visit}
use Rattle.clk_sched.specs.Tree.{Tree, root}
use Rattle.clk_sched.specs.FewHeads.{drrs_above}
use Rattle.clk_tree.specs.declared.plan.parts.SenderSpec.{SenderSpec}
use Rattle.clk_router.specs.Events.{Room, Setup, sender_numbers, Event, offered, pulled, numbers_of, sends_to, history, emitted_in, CanHappen}
use Rattle.clk_router.specs.Settled.{offered_of, emitted_by, out_of}

-- whether a packet is by a sender to this queue
abbrev pub is_of_queue : Setup → ℕ → Packet → Bool
is_of_queue setup q p = sends_to setup.senders p.sender q

-- the packet that an event of a queue gave, if it gave one
abbrev pub given_by : QueueEvent → Option Packet
given_by (give p) = Some p
given_by event = None

-- the packets that a queue gave, in order
abbrev pub given_of : Setup → ℕ → List Event → List Packet
given_of setup q events = filter_map given_by (history setup q events)

-- the packets of a queue's senders that a device emitted, in order
abbrev pub emitted_of : Setup → ℕ → ℕ → List Event → List Packet
emitted_of setup d q events = filter (is_of_queue setup q) (emitted_by setup d events)

-- the heads of a queue of this device: the packets that the queue gave and the device has not emitted
abbrev pub heads_of : Setup → ℕ → ℕ → List Event → List Packet
heads_of setup d q events = drop (length (emitted_of setup d q events)) (given_of setup q events)

-- the packets of a queue of this device that are inside, the next to be emitted first
abbrev pub inside_of : Setup → ℕ → ℕ → List Event → List Packet
inside_of setup d q events = heads_of setup d q events ++ held (history setup q events)

-- the packets of a queue that an event emitted: one, or none
abbrev pub emitted_from : Setup → ℕ → Event → List Packet
emitted_from setup q e = filter (is_of_queue setup q) (cons_option (emitted_in e) [])

-- A packet is evicted for another. It is the first that the queue holds, so it stands right behind the heads.
pub record IsEvictedInside (setup : Setup) (d q : ℕ) (events more : List Event) (front p : Packet) : Type 0 where
  pub rest : List Packet
  pub held_are : held (history setup q events) ≡ front ∷ rest
  pub before : inside_of setup d q events ≡ heads_of setup d q events ++ front ∷ rest
  pub after : inside_of setup d q more ≡ heads_of setup d q events ++ (rest ++ p ∷ [])

-- How the packets inside a queue change by one more event, and how many they are.
pub record QueueGoesOn (setup : Setup) (events : List Event) (q : ℕ) (room : Room) (tree : Tree) : Type 0 where
  -- an offer to another queue changes nothing
  pub other : (p : Packet) (outcome : Offered) → is_of_queue setup q p ≡ false → inside_of setup room.device q (events ++ offered p outcome ∷ []) ≡ inside_of setup room.device q events
  -- a packet that is accepted goes to the end, and one that is refused changes nothing
  pub accepted : (p : Packet) → is_of_queue setup q p ≡ true → inside_of setup room.device q (events ++ offered p Accepted ∷ []) ≡ inside_of setup room.device q events ++ p ∷ []
  pub refused : (p r : Packet) → is_of_queue setup q p ≡ true → inside_of setup room.device q (events ++ offered p (Refused r) ∷ []) ≡ inside_of setup room.device q events
  -- only a full queue refuses or evicts
  pub full : (p : Packet) (outcome : Offered) → is_of_queue setup q p ≡ true → CanHappen setup (events ++ offered p outcome ∷ []) → (outcome ≡ Accepted → ⊥) → length (held (history setup q events)) ≡ room.capacity
  -- a packet that evicts goes to the end, and the first that the queue holds is gone
  pub evicted : (p front : Packet) → is_of_queue setup q p ≡ true → CanHappen setup (events ++ offered p (Evicted front) ∷ []) → IsEvictedInside setup room.device q events (events ++ offered p (Evicted front) ∷ []) front p
  -- a pull of any device emits the first packet inside, or none of this queue
  pub pulled_on : (c m : ℕ) (visits : List Visit) → CanHappen setup (events ++ pulled c m visits ∷ [])
      → inside_of setup room.device q events ≡ emitted_from setup q (pulled c m visits) ++ inside_of setup room.device q (events ++ pulled c m visits ∷ [])
  -- the tree holds one head at each DRRSched above the queue at most
  pub fits : length (inside_of setup room.device q events) ≤ room.capacity + drrs_above q (root tree)
  -- each packet was offered
  pub were_offered : AllByRecursion (λ (p : Packet). p.number < length (numbers_of p.sender events)) (inside_of setup room.device q events)

-- The packets inside each queue of a setup change as `QueueGoesOn` says, in events that can happen. At first there are none. A pull emits a
-- packet of a sender of the setup, or none.
pub record QueuesGoOn (setup : Setup) : Type 0 where
  pub start : (d q : ℕ) → inside_of setup d q [] ≡ []
  pub each : (events : List Event) (q : ℕ) (room : Room) → CanHappen setup events → slice_get setup.queues q ≡ Some room → MatchOption (slice_get setup.trees room.device) ⊥ (QueueGoesOn setup events q room)
  pub of_senders : (events : List Event) (c m : ℕ) (visits : List Visit) → CanHappen setup (events ++ pulled c m visits ∷ []) → MatchOption (emitted_in (pulled c m visits)) ⊤ (λ (p : Packet). list_any (λ n. n == p.sender) (sender_numbers setup) ≡ true)

-- the packets of a sender that are out of the router, and those that are inside its queue
abbrev pub out_or_inside : Setup → List Event → SenderSpec → Room → List Packet
out_or_inside setup events s room = out_of setup events s room ++ of_sender s.number (inside_of setup room.device s.queue events)

-- Each packet that a sender offered is out of the router or inside it, once, and no other is.
pub record IsOutOrInside (setup : Setup) (events : List Event) (s : SenderSpec) (room : Room) : Type 0 where
  pub once : are_distinct (packet_numbers (out_or_inside setup events s room)) ≡ true
  pub all : (n : ℕ) → stands_in n (packet_numbers (out_or_inside setup events s room)) ≡ nat_lt n (length (offered_of events s.number))

-- For all senders of a setup: each packet is out of the router or inside it, once.
abbrev pub AreOutOrInside : Setup → List Event → Type 0
AreOutOrInside setup events = AllByRecursion (λ (s : SenderSpec). MatchOption (slice_get setup.queues s.queue) ⊥ (IsOutOrInside setup events s)) setup.senders
