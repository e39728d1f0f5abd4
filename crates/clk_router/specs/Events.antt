-- What happens to a router, and which events can happen one after another.
use Rattle.std.specs.Prelude.{◌≡◌, ℕ, ◌+◌, ◌<◌, List, [], ◌∷◌, length, map, filter, fold, max, ◌==◌, ◌&&◌, Bool, true, false, if◌then◌else◌, Option, Some, None, MatchOption, ⊤, slice_get}
use Rattle.std.specs.Option.{option_map_or}
use Rattle.std.specs.List.{flat_map, filter_map, range_with_len, list_any, position_or_len, AllByRecursion}
use Rattle.clk_packet.specs.declared.packet.Packet.{Packet}
use Rattle.clk_packet.specs.declared.packet.Kind.{Kind}
use Rattle.clk_packet.specs.declared.packet.Offered.{Offered}
use Rattle.clk_packet.specs.declared.packet.Offered.TheVariants.{Refused, Evicted}
use Rattle.clk_packet.specs.declared.tally.Tally.{Tally}
use Rattle.clk_sched.specs.declared.visit.Visit.{Visit}
use Rattle.clk_ring.specs.QueueHistory.{QueueEvent, offer_events, pull_event, NamesOffer, IsQueueHistory}
use Rattle.clk_sched.specs.Tree.{Tree, root, leaves}
use Rattle.clk_sched.specs.Session.{given_in, LastGives}
use Rattle.clk_sched.specs.Log.{pulls, moment_of, counted, visits_of, result_of}
use Rattle.clk_sched.specs.Run.{IsRun}
use Rattle.clk_sched.specs.Results.{asks_queue, emitted}
use Rattle.clk_tree.specs.declared.plan.parts.SenderSpec.{SenderSpec}
use Rattle.clk_tree.specs.Plan.{Planned}
use Rattle.clk_tree.specs.PlanParts.{SharedQueue, shared_queues, senders_of, sender_names, number_of}
use Rattle.clk_packet.specs.Lists.{of_sender, stands_in}

-- what a router knows of a queue: its kind, its capacity in packets, and the number of the device that emits its packets
pub record Room : Type 0 where
  pub kind : Kind
  pub capacity : ℕ
  pub device : ℕ

-- a queue of a plan, as a router over these trees knows it: its device is the one whose tree has it as a leaf
abbrev pub room_over : List Tree → SharedQueue → Room
room_over trees q = record { kind = q.kind; capacity = q.capacity; device = position_or_len (λ (tree : Tree). stands_in q.leaf (leaves (root tree))) trees }

-- what a router is made over: a tree for each device, by its number, the queues, the senders, and the name of each sender's element
pub record Setup : Type 0 where
  pub trees : List Tree
  pub queues : List Room
  pub senders : List SenderSpec
  pub names : List (List ℕ)

-- the setup of a plan with its trees
abbrev pub plan_setup : List Tree → List Planned → Setup
plan_setup trees plan = record { trees = trees; queues = map (room_over trees) (shared_queues plan); senders = senders_of plan; names = sender_names plan }

-- the numbers of the senders of a setup
abbrev pub sender_numbers : Setup → List ℕ
sender_numbers setup = map number_of setup.senders

-- What happened to a router: a packet was offered, with this outcome; or the device with this number was pulled, with these visits, at the
-- moment that was handed in.
pub data Event : Type 0 where
  offered : Packet → Offered → Event
  pulled : ℕ → ℕ → List Visit → Event

-- whether a sender sends to a queue of this device
abbrev pub is_of_device : List Room → ℕ → SenderSpec → Bool
is_of_device queues d s = option_map_or (λ (room : Room). room.device == d) (slice_get queues s.queue) false

-- whether an event happens at a device: it is a pull of the device, or an offer of one of its senders
abbrev pub happens_at : Setup → ℕ → Event → Bool
happens_at setup d (offered p outcome) = list_any (λ (s : SenderSpec). (s.number == p.sender) && is_of_device setup.queues d s) setup.senders
happens_at setup d (pulled device moment visits) = device == d

-- the events at a device, in order
abbrev pub events_at : Setup → ℕ → List Event → List Event
events_at setup d events = filter (happens_at setup d) events

-- the number of the packet that an event offered, if the packet is of this sender
abbrev pub number_from : ℕ → Event → Option ℕ
number_from s (offered p outcome) = if p.sender == s then Some p.number else None
number_from s (pulled device moment visits) = None

-- the numbers of a sender's packets, in the order in which they were offered
abbrev pub numbers_of : ℕ → List Event → List ℕ
numbers_of s events = filter_map (number_from s) events

-- the visits of an event; an offer has none
abbrev pub visits_in : Event → List Visit
visits_in (offered p outcome) = []
visits_in (pulled device moment visits) = visits

-- the visits of an event, if it is a pull
abbrev pub pull_in : Event → Option (List Visit)
pull_in (offered p outcome) = None
pull_in (pulled device moment visits) = Some visits

-- the moment that was handed in, if an event is a pull
abbrev pub moment_in : Event → Option ℕ
moment_in (offered p outcome) = None
moment_in (pulled device moment visits) = Some moment

-- the visits of all events, in order
abbrev pub log_of : List Event → List Visit
log_of events = flat_map visits_in events

-- the packet that an event's queue accepted, if it accepted one
abbrev pub accepted_in : Event → Option Packet
accepted_in (offered p (Refused q)) = None
accepted_in (offered p outcome) = Some p
accepted_in (pulled device moment visits) = None

-- the packet that an event's queue refused, if it refused one
abbrev pub refused_in : Event → Option Packet
refused_in (offered p (Refused q)) = Some p
refused_in event = None

-- the packet that an event's queue evicted, if it evicted one
abbrev pub evicted_in : Event → Option Packet
evicted_in (offered p (Evicted front)) = Some front
evicted_in event = None

-- the packet that a device emitted in an event, if it emitted one
abbrev pub emitted_in : Event → Option Packet
emitted_in (offered p outcome) = None
emitted_in (pulled device moment visits) = result_of (visits_of 0 visits)

-- which packets of a sender were accepted, refused and evicted
abbrev pub tally_after : List Event → ℕ → Tally
tally_after events s = record {
  sender = s;
  accepted = of_sender s (filter_map accepted_in events);
  refused = of_sender s (filter_map refused_in events);
  evicted = of_sender s (filter_map evicted_in events);
}

-- whether a sender sends to this queue
abbrev pub sends_to : List SenderSpec → ℕ → ℕ → Bool
sends_to senders sender q = list_any (λ (s : SenderSpec). (s.number == sender) && (s.queue == q)) senders

-- the visits of a device's pull, as events of a queue: only visits that asked the queue count
abbrev pub answers_in : Option Tree → ℕ → List Visit → List QueueEvent
answers_in o q visits = option_map_or (λ tree. flat_map (λ (v : Visit). if asks_queue tree q v then pull_event v.got ∷ [] else []) visits) o []

-- an event of a router, as events of a queue
abbrev pub at_queue : Setup → ℕ → Event → List QueueEvent
at_queue setup q (offered p outcome) = if sends_to setup.senders p.sender q then offer_events p outcome else []
at_queue setup q (pulled device moment visits) = answers_in (slice_get setup.trees device) q visits

-- the history of a queue in some events of a router
abbrev pub history : Setup → ℕ → List Event → List QueueEvent
history setup q events = flat_map (at_queue setup q) events

-- a pull is of one of the first `count` devices
abbrev pub IsOfDevice : ℕ → Event → Type 0
IsOfDevice count (offered p outcome) = ⊤
IsOfDevice count (pulled device moment visits) = device < count

-- an offer is by a sender of the setup
abbrev pub IsOfSender : Setup → Event → Type 0
IsOfSender setup (offered p outcome) = list_any (λ n. n == p.sender) (sender_numbers setup) ≡ true
IsOfSender setup (pulled device moment visits) = ⊤

-- a refusal names the packet that was offered
abbrev pub NamesItsOffer : Event → Type 0
NamesItsOffer (offered p outcome) = NamesOffer p outcome
NamesItsOffer (pulled device moment visits) = ⊤

-- The pulls among these events of a device are a run of its tree, pull by pull. Each is made at the device's latest moment so far.
pub record RunsTree (tree : Tree) (events : List Event) : Type 0 where
  pub run : IsRun tree (log_of events)
  pub pull_by_pull : pulls (log_of events) ≡ filter_map pull_in events
  pub moments : map moment_of (filter_map pull_in events) ≡ counted 0 (filter_map moment_in events)

-- These events can happen one after another: the pulls of each device are a run of its tree, and what happened to each queue is a history
-- of it. Offers are of senders of the setup, each numbering its packets from 0. Pulls are of devices that exist, and refusals name the
-- packets that were offered.
pub record CanHappen (setup : Setup) (events : List Event) : Type 0 where
  pub senders : AllByRecursion (IsOfSender setup) events
  pub numbered : (s : ℕ) → numbers_of s events ≡ range_with_len 0 (length (numbers_of s events))
  pub devices : AllByRecursion (IsOfDevice (length setup.trees)) events
  pub runs : (d : ℕ) → MatchOption (slice_get setup.trees d) ⊤ (λ tree. RunsTree tree (events_at setup d events))
  pub refusals : AllByRecursion NamesItsOffer events
  pub histories : (q : ℕ) → MatchOption (slice_get setup.queues q) ⊤ (λ room. IsQueueHistory room.kind room.capacity (history setup q events))

-- pulls of a device one tick apart, the first at this moment
abbrev pub pulls_from : ℕ → ℕ → List (List Visit) → List Event
pulls_from device moment [] = []
pulls_from device moment (visits ∷ more) = pulled device moment visits ∷ pulls_from device (moment + 1) more

-- The pulls of a drain of a device after its events, from a moment on. They are one tick apart, the first one tick after the later of that
-- moment and the device's latest.
abbrev pub closing_pulls : ℕ → ℕ → List Event → List (List Visit) → List Event
closing_pulls device moment events closing = pulls_from device (max (fold max 0 (filter_map moment_in events)) moment + 1) closing

-- A drain of a device after its events: pulls one tick apart, up to the one that emits the last packet that was accepted there and not
-- evicted. If no packet is left, there are no pulls.
pub record Closes (device moment : ℕ) (events closed : List Event) : Type 0 where
  pub closing : List (List Visit)
  pub are : closed ≡ closing_pulls device moment events closing
  pub all : length (filter_map accepted_in events) ≡ length (filter_map evicted_in events) + length (emitted (log_of events)) + length (given_in closing)
  pub stops : LastGives closing

-- the log of each device, by its number
abbrev pub logs_of : Setup → List Event → List (List Visit)
logs_of setup events = map (λ d. log_of (events_at setup d events)) (range_with_len 0 (length setup.trees))
