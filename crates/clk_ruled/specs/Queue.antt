-- A shared queue, its seats and its tap, as their callers see them.
use Rattle.std.specs.Prelude.{◌≡◌, ℕ, ◌+◌, ◌≤◌, Bool, true, List, [], ◌∷◌, ◌++◌, length, min, max, map, Option, Some, None}
use Rattle.atomic_table.specs.Seated.{TableId}
use Rattle.clk_packet.specs.declared.packet.Packet.{Packet}
use Rattle.clk_packet.specs.declared.packet.Kind.{Kind}
use Rattle.clk_packet.specs.declared.packet.Kind.TheVariants.{TailDrop, FrontDrop}
use Rattle.clk_packet.specs.declared.packet.Offered.{Offered}
use Rattle.clk_packet.specs.declared.packet.Offered.TheVariants.{Accepted, Refused, Evicted}
pub use Rattle.clk_packet.specs.Dealt.{AreNumbered, IsDealt}
use Rattle.clk_ruled.specs.declared.view.QueueSetup.{QueueSetup}
use Rattle.clk_ruled.specs.declared.view.Gathered.{Gathered}
use Rattle.clk_packet.specs.Lists.{In, stands_in}
use Rattle.clk_ruled.specs.Rooms.{rooms_in_all}
use Rattle.clk_ruled.specs.Rule.{senders_of, gathered_senders, gathered_seat}

-- A shared queue as contracts see it: which queue it is, its kind, how many packets it may hold, and how many places it has for them.
pub record OpenedQueue : Type 0 where
  pub id : TableId
  pub kind : Kind
  pub capacity : ℕ
  pub places : ℕ

-- how many places a queue has: no more than its capacity, no more than packets can be offered, and at least one
abbrev pub places_of : QueueSetup → ℕ
places_of setup = max 1 (min setup.capacity (rooms_in_all setup.rooms))

-- the queue that is opened with this setup
abbrev pub queue_of : TableId → QueueSetup → OpenedQueue
queue_of id setup = record { id = id; kind = setup.kind; capacity = setup.capacity; places = places_of setup }

-- A seat as contracts see it: its queue, its sender, how many packets the sender may offer and has offered, and which were accepted and
-- refused. `evicted` has the packets that were evicted for those of this seat, of whichever sender.
pub record SeatLists : Type 0 where
  pub id : TableId
  pub setup : QueueSetup
  pub sender : ℕ
  pub room : ℕ
  pub next : ℕ
  pub accepted : List Packet
  pub refused : List Packet
  pub evicted : List Packet

-- The tap: the queue that it was opened with, whether it keeps the packets that it pulls, those that it pulled, and the lists of the seats
-- that it gathered, the latest first.
pub record TapLists : Type 0 where
  pub id : TableId
  pub setup : QueueSetup
  pub keeps : Bool
  pub taken : List Packet
  pub gathered : List Gathered

-- Every packet that was offered, from number 0 on, is in one of accepted and refused, both by rising number.
pub record IsShared (sender next : ℕ) (accepted refused : List Packet) : Type 0 where
  pub offered : List Packet
  pub count : length offered ≡ next
  pub numbers : AreNumbered sender 0 offered
  pub dealt : IsDealt offered accepted refused

-- Each packet that a seat offered is in one of accepted and refused, and a FrontDropQueue refuses none. A seat keeps this once it is
-- closed, and once it is gathered.
pub record IsSharedOut (l : SeatLists) : Type 0 where
  pub within : l.next ≤ l.room
  pub shared : IsShared l.sender l.next l.accepted l.refused
  pub front_drop : l.setup.kind ≡ FrontDrop → l.refused ≡ []

-- the seat is one of this queue's
abbrev pub IsSeatOf : OpenedQueue → SeatLists → Type 0
IsSeatOf queue seat = queue ≡ queue_of seat.id seat.setup

-- the tap is this queue's
abbrev pub IsTapOf : OpenedQueue → TapLists → Type 0
IsTapOf queue tap = queue ≡ queue_of tap.id tap.setup

-- the seat once a packet of its sender was accepted
abbrev pub accepting : SeatLists → Packet → SeatLists
accepting s p = record { id = s.id; setup = s.setup; sender = s.sender; room = s.room; next = s.next + 1; accepted = s.accepted ++ p ∷ []; refused = s.refused; evicted = s.evicted }

-- the seat once a packet of its sender was refused
abbrev pub refusing : SeatLists → Packet → SeatLists
refusing s p = record { id = s.id; setup = s.setup; sender = s.sender; room = s.room; next = s.next + 1; accepted = s.accepted; refused = s.refused ++ p ∷ []; evicted = s.evicted }

-- the seat once a packet of its sender was accepted and another one, of any sender, was evicted for it
abbrev pub evicting : SeatLists → Packet → Packet → SeatLists
evicting s p front = record { id = s.id; setup = s.setup; sender = s.sender; room = s.room; next = s.next + 1; accepted = s.accepted ++ p ∷ []; refused = s.refused; evicted = s.evicted ++ front ∷ [] }

-- What an offer does to a seat: one more packet was offered. Only a Queue refuses it, and only a FrontDropQueue evicts another packet for
-- it.
abbrev pub IsOffered : SeatLists → Packet → Offered → SeatLists → Type 0
IsOffered old p Accepted new = new ≡ accepting old p
IsOffered old p (Refused q) new = (old.setup.kind ≡ TailDrop) × (q ≡ p) × (new ≡ refusing old p)
IsOffered old p (Evicted front) new = (old.setup.kind ≡ FrontDrop) × (new ≡ evicting old p front)

-- the tap once it pulled a packet
abbrev pub taking : TapLists → Packet → TapLists
taking t p = record { id = t.id; setup = t.setup; keeps = t.keeps; taken = t.taken ++ p ∷ []; gathered = t.gathered }

-- What a pull does to a tap: the packet goes to the end of those pulled, or nothing changes.
abbrev pub IsPulled : TapLists → Option Packet → TapLists → Type 0
IsPulled old None new = new ≡ old
IsPulled old (Some p) new = new ≡ taking old p

-- the tap once it gathered a seat: it keeps the seat's sender, with the packets accepted and evicted there
abbrev pub gathering : TapLists → SeatLists → TapLists
gathering t s = record { id = t.id; setup = t.setup; keeps = t.keeps; taken = t.taken; gathered = gathered_seat s.sender s.accepted s.evicted ∷ t.gathered }

-- each of the packets is of one of the setup's senders
abbrev pub AreOfSenders : QueueSetup → List Packet → Type 0
AreOfSenders setup packets = (p : Packet) → In p packets → stands_in p.sender (senders_of setup) ≡ true

-- The tap gathered the seat of each sender.
abbrev pub AreAllGathered : TapLists → Type 0
AreAllGathered t = (s : ℕ) → stands_in s (senders_of t.setup) ≡ true → stands_in s (gathered_senders t.gathered) ≡ true

-- how many packets were accepted from these seats in all
abbrev pub accepted_in_all : List Gathered → ℕ
accepted_in_all [] = 0
accepted_in_all (g ∷ gathered) = length g.accepted + accepted_in_all gathered

-- how many packets were evicted for these seats in all
abbrev pub evicted_in_all : List Gathered → ℕ
evicted_in_all [] = 0
evicted_in_all (g ∷ gathered) = length g.evicted + evicted_in_all gathered

-- the seat of a sender before its first offer
abbrev pub empty_seat : TableId → QueueSetup → ℕ × ℕ → SeatLists
empty_seat id setup r = record { id = id; setup = setup; sender = r.0; room = r.1; next = 0; accepted = []; refused = []; evicted = [] }

-- the tap before its first pull
abbrev pub empty_tap : Bool → TableId → QueueSetup → TapLists
empty_tap keeps id setup = record { id = id; setup = setup; keeps = keeps; taken = []; gathered = [] }

-- A queue was opened with one seat for each sender, in order, and a tap, none of which has done anything.
abbrev pub IsOpened : QueueSetup → OpenedQueue → List SeatLists → TapLists → Type 0
IsOpened setup queue seats tap = (queue ≡ queue_of queue.id setup) × (seats ≡ map (empty_seat queue.id setup) setup.rooms) × (tap ≡ empty_tap tap.keeps queue.id setup)

-- the setup of a queue of this kind and capacity, for these senders with their rooms
abbrev pub setup_of : Kind → ℕ → List (ℕ × ℕ) → QueueSetup
setup_of kind capacity rooms = record { kind = kind; capacity = capacity; rooms = rooms }

-- a closed seat: its lists, and whether the tap gathered them
pub record ClosedLists : Type 0 where
  pub lists : SeatLists
  pub is_gathered : Bool

-- a closed seat once it is gathered, for the first time or once more
abbrev pub closed_with : SeatLists → ClosedLists
closed_with l = record { lists = l; is_gathered = true }
