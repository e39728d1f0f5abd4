-- What the router's parts do, in the words of the definitions.
use Rattle.std.specs.Prelude.{◌≡◌, ℕ, ◌+◌, ◌<◌, ◌≤◌, ◌^◌, nat_lt, List, [], ◌++◌, length, map, fold, max, true, false, ◌==◌, ⊤, Option, Some, None, slice_get}
use Rattle.std.specs.List.{filter_map, range_with_len, AllByRecursion}
use Rattle.clk_packet.specs.declared.packet.Packet.{Packet}
use Rattle.clk_packet.specs.declared.packet.Offered.{Offered}
use Rattle.clk_packet.specs.declared.packet.Offered.TheVariants.{Accepted}
use Rattle.clk_packet.specs.declared.limits.TheConstants.{MAX_ELEMENTS, MAX_CAPACITY}
use Rattle.clk_ring.specs.Queue.{Queue}
use Rattle.clk_ring.specs.QueueHistory.{QueueEvent}
use Rattle.clk_ring.specs.Laws.{LeadsTo}
use Rattle.clk_sched.specs.declared.session.departures.Departure.{Departure}
use Rattle.clk_sched.specs.declared.session.keeps.Keeps.{Keeps}
use Rattle.clk_sched.specs.Bound.{closing_bound}
use Rattle.clk_sched.specs.Departures.{departures_in}
use Rattle.clk_sched.specs.Due.{IsDue, tree_could_emit}
use Rattle.clk_sched.specs.declared.limits.TheConstants.{MAX_LEFT, END_OF_DRAINS, END_OF_PULLS, END_OF_DRAINED_PULLS}
use Rattle.clk_sched.specs.Log.{visits_of, moment_of, result_of}
use Rattle.clk_sched.specs.Results.{emitted}
use Rattle.clk_sched.specs.Session.{counted_moment, elements, SessionLists, progress_of, pulls_made}
use Rattle.clk_sched.specs.Tree.{Tree, root, leaves_distinct, IsSound as AreSchedulersSound}
use Rattle.clk_tree.specs.declared.plan.parts.SenderSpec.{SenderSpec}
use Rattle.clk_packet.specs.Lists.{AreRising}
use Rattle.clk_tree.specs.PlanParts.{Queued, SendsWithin}
use Rattle.clk_router.specs.declared.senders.Sender.{Sender}
use Rattle.clk_router.specs.declared.devices.RouterDevice.{RouterDevice}
use Rattle.clk_router.specs.declared.parts.Parts.{Parts}
use Rattle.clk_router.specs.inside.Closable.{HasLowBound, IsClosable}
use Rattle.clk_router.specs.Course.{room_device}
use Rattle.clk_router.specs.declared.limits.TheConstants.{END_OF_PACKETS}
use Rattle.clk_router.specs.inside.Queues.{packets_at}
use Rattle.clk_router.specs.inside.Past.{visits_shown, pull_shown, made_shown, pulls_shown}
use Rattle.clk_router.specs.Events.{Room, Setup, Event, CanHappen, numbers_of, moment_in, accepted_in, evicted_in, history, log_of, events_at, sender_numbers, Closes}

-- the number of the device that emits a queue's packets
abbrev pub path_made : Queued → ℕ
path_made q = q.device

-- a queue with its device, as a router knows it
abbrev pub room_of : Queued → Room
room_of q = record { kind = q.kind; capacity = q.capacity; device = q.device }

-- the setup of these names, trees, queues and senders
abbrev pub setup_of : List (List ℕ) → List Tree → List Queued → List SenderSpec → Setup
setup_of names trees queues senders = record { trees = trees; queues = map room_of queues; senders = senders; names = names }

-- a tree over which a device can stand
pub record CanStand (tree : Tree) : Type 0 where
  pub distinct : leaves_distinct tree ≡ true
  pub fits : 1 + elements (root tree) ≤ MAX_ELEMENTS
  pub sound : AreSchedulersSound (root tree)
  pub bound : HasLowBound tree

-- a device over a tree, before its first pull
abbrev pub device_made : Keeps → Tree → RouterDevice
device_made keeps tree = record { session = record { tree = tree; log = []; keeps = keeps; gone = 0 }; kept = 0 }

-- a sender as it is made
abbrev pub sender_made : SenderSpec → Sender
sender_made spec = record { number = spec.number; queue = spec.queue; sent = 0 }

-- a sender once it has sent one packet more
abbrev pub sent_one_more : Sender → Sender
sent_one_more s = record { number = s.number; queue = s.queue; sent = s.sent + 1 }

-- the number of a sender
abbrev pub sender_number : Sender → ℕ
sender_number s = s.number

-- These events lead to this queue, which has the kind and the capacity of `room`.
pub record IsQueueAt (events : List QueueEvent) (room : Room) (q : Queue) : Type 0 where
  pub leads : LeadsTo events q
  pub kind : q.kind ≡ room.kind
  pub capacity : q.capacity ≡ room.capacity

-- If a queue is declared, these events lead to it; if none is declared, there is none.
abbrev pub AreQueuesAt : List QueueEvent → Option Room → Option Queue → Type 0
AreQueuesAt events None None = ⊤
AreQueuesAt events None (Some q) = ⊥
AreQueuesAt events (Some room) None = ⊥
AreQueuesAt events (Some room) (Some q) = IsQueueAt events room q

-- a sender after some events
abbrev pub sender_after : List Event → SenderSpec → Sender
sender_after events spec = record {
  number = spec.number;
  queue = spec.queue;
  sent = length (numbers_of spec.number events);
}

-- These events of a device lead to its state over its tree. `kept` is how many packets its queues accepted and didn't evict.
pub record IsDeviceAt (events : List Event) (tree : Tree) (device : RouterDevice) : Type 0 where
  pub tree_is : device.session.tree ≡ tree
  pub log : device.session.log ≡ log_of events
  pub kept : device.kept + length (filter_map evicted_in events) ≡ length (filter_map accepted_in events)

-- If a device has a tree, these events lead to its state; if it has none, there is no device.
abbrev pub AreDevicesAt : List Event → Option Tree → Option RouterDevice → Type 0
AreDevicesAt events None None = ⊤
AreDevicesAt events None (Some device) = ⊥
AreDevicesAt events (Some tree) None = ⊥
AreDevicesAt events (Some tree) (Some device) = IsDeviceAt events tree device

-- A device keeps what it was told to keep, and no visit is gone from its log.
abbrev pub KeepsAs : Keeps → RouterDevice → Type 0
KeepsAs keeps device = (device.session.keeps ≡ keeps) × (device.session.gone ≡ 0)

-- A device keeps what it was told to keep, if it exists.
abbrev pub KeepsAsAt : Keeps → Option RouterDevice → Type 0
KeepsAsAt keeps None = ⊤
KeepsAsAt keeps (Some device) = KeepsAs keeps device

-- A sender has sent fewer than 2^32 packets.
abbrev pub HasSentFew : Sender → Type 0
HasSentFew s = s.sent < 2 ^ 32

-- The parts are where these events lead over a setup.
pub record IsAt (setup : Setup) (events : List Event) (parts : Parts) : Type 0 where
  pub can_happen : CanHappen setup events
  pub senders : parts.senders.items ≡ map (sender_after events) setup.senders
  pub numbers : parts.numbers.items ≡ sender_numbers setup
  pub sent : AllByRecursion HasSentFew parts.senders.items
  pub queues : (q : ℕ) → AreQueuesAt (history setup q events) (slice_get setup.queues q) (slice_get parts.queues.rings.items q)
  pub count : length parts.queues.rings.items ≡ length setup.queues
  pub devices : (d : ℕ) → AreDevicesAt (events_at setup d events) (slice_get setup.trees d) (slice_get parts.devices.items d)
  pub device_count : length parts.devices.items ≡ length setup.trees
  pub paths : parts.paths.items ≡ map room_device setup.queues
  pub kinds : (d : ℕ) → KeepsAsAt parts.keeps (slice_get parts.devices.items d)

-- A setup over which a router can run. It has a device, and no more than `MAX_ELEMENTS` devices and queues. Its senders stand by rising
-- numbers, and send to queues that exist. Its queues send to devices that exist, and no capacity is above `MAX_CAPACITY`.
pub record IsWhole (setup : Setup) : Type 0 where
  pub some : 1 ≤ length setup.trees
  pub few : length setup.trees ≤ MAX_ELEMENTS
  pub rising : AreRising (sender_numbers setup)
  pub wired : AllByRecursion (SendsWithin (length setup.queues)) setup.senders
  pub paths : AllByRecursion (λ (room : Room). room.device < length setup.trees) setup.queues
  pub queue_count : length setup.queues ≤ MAX_ELEMENTS
  pub capacities : AllByRecursion (λ (room : Room). room.capacity ≤ MAX_CAPACITY) setup.queues

-- a sender exists, its queue is one of `count`, and it can send one packet more
abbrev pub CanSendOn : ℕ → Option Sender → Type 0
CanSendOn count None = ⊥
CanSendOn count (Some s) = (s.queue < count) × (s.sent + 1 < 2 ^ 32)

-- one more packet can be counted at a device
abbrev pub CanCount : Option RouterDevice → Type 0
CanCount None = ⊥
CanCount (Some device) = device.kept < END_OF_PACKETS

-- The sender at a place can offer a packet: its number stands there too, its queue exists and has a path, and its device can count one
-- more.
pub record CanOfferAt (parts : Parts) (place : ℕ) : Type 0 where
  pub alike : map sender_number parts.senders.items ≡ parts.numbers.items
  pub rising : AreRising parts.numbers.items
  pub can_send : CanSendOn (length parts.queues.rings.items) (slice_get parts.senders.items place)
  pub path_count : length parts.paths.items ≡ length parts.queues.rings.items
  pub counts : (device : ℕ) (s : Sender) → slice_get parts.senders.items place ≡ Some s → slice_get parts.paths.items s.queue ≡ Some device → CanCount (slice_get parts.devices.items device)

-- a device exists and can be pulled, whatever the moment
abbrev pub CanPullAt : Keeps → Option RouterDevice → Type 0
CanPullAt keeps None = ⊥
CanPullAt keeps (Some device) = KeepsAs keeps device × (pulls_made (progress_of device.session) < END_OF_PULLS)

-- a device emitted no more packets than it counts as kept
abbrev pub CountsLeft : Option RouterDevice → Type 0
CountsLeft None = ⊥
CountsLeft (Some device) = length (emitted device.session.log) ≤ device.kept

-- a device can be drained from a moment on
abbrev pub CanCloseAt : ℕ → Option RouterDevice → Type 0
CanCloseAt moment None = ⊥
CanCloseAt moment (Some device) =
    (length (emitted device.session.log) ≤ device.kept) × (device.kept ≤ length (emitted device.session.log) + MAX_LEFT)
    × (max (counted_moment (progress_of device.session)) moment < END_OF_DRAINS) × (pulls_made (progress_of device.session) < END_OF_DRAINED_PULLS)

-- Of these devices only the one with this number may have changed.
pub record ChangesDevice (old : List RouterDevice) (number : ℕ) (new : List RouterDevice) : Type 0 where
  pub count : length new ≡ length old
  pub others : (k : ℕ) → (number == k) ≡ false → slice_get new k ≡ slice_get old k

-- how many more packets are kept by an offer: one, if the packet was accepted and no other was evicted for it
abbrev pub kept_by : Offered → ℕ
kept_by Accepted = 1
kept_by outcome = 0

-- An offer with this outcome is counted at a device.
abbrev pub CountsHere : Offered → Option RouterDevice → Option RouterDevice → Type 0
CountsHere outcome None new = ⊥
CountsHere outcome (Some old) None = ⊥
CountsHere outcome (Some old) (Some new) = (new.session ≡ old.session) × (new.kept ≡ old.kept + kept_by outcome)

-- An offer with this outcome is counted at the device with this number, and no other device changes.
pub record CountsAt (old : List RouterDevice) (number : ℕ) (outcome : Offered) (new : List RouterDevice) : Type 0 where
  pub here : CountsHere outcome (slice_get old number) (slice_get new number)
  pub only : ChangesDevice old number new

-- One more pull of a device, at this moment, led on from these events to this result, as its session shows.
pub record LeadsOnByPull (setup : Setup) (new : Parts) (device moment : ℕ) (got : Option Packet) (events : List Event) : Type 0 where
  pub its : RouterDevice
  pub here : slice_get new.devices.items device ≡ Some its
  pub result : result_of (visits_of 0 (visits_shown setup events device its.session)) ≡ got
  pub leads : IsAt setup (events ++ pull_shown setup events device moment its.session) new

-- The pulls of a drain of a device, from a moment on, led on from these events, as its session shows.
pub record LeadsOnByPulls (setup : Setup) (new : Parts) (device moment : ℕ) (events : List Event) : Type 0 where
  pub its : RouterDevice
  pub here : slice_get new.devices.items device ≡ Some its
  pub leads : IsAt setup (events ++ pulls_shown setup events device moment its.session) new

-- packets are left for a device after its events
abbrev pub IsAnyLeft : List Event → Type 0
IsAnyLeft its = length (filter_map evicted_in its) + length (emitted (log_of its)) < length (filter_map accepted_in its)

-- The pulls that the session shows are a whole drain of the device from a moment on. It emitted these packets, at these moments.
pub record ClosesBy (setup : Setup) (events : List Event) (device moment : ℕ) (session : SessionLists) (departures : List Departure) : Type 0 where
  pub closes : Closes device moment (events_at setup device events) (pulls_shown setup events device moment session)
  pub emitted : departures ≡ departures_in closes.closing
  pub moments : map moment_of closes.closing ≡ range_with_len (max (fold max 0 (filter_map moment_in (events_at setup device events))) moment + 1) (length closes.closing)

-- The pulls that the session shows are a drain of the device that stopped while packets were left, within the closing bound.
pub record StopsBy (setup : Setup) (events : List Event) (device moment : ℕ) (session : SessionLists) : Type 0 where
  pub within : (tree : Tree) (left : ℕ) → slice_get setup.trees device ≡ Some tree
      → length (filter_map accepted_in (events_at setup device events)) ≡ length (filter_map evicted_in (events_at setup device events)) + length (emitted (log_of (events_at setup device events))) + left
      → length (made_shown setup events device session) ≤ closing_bound tree left
  pub short : IsAnyLeft (events_at setup device (events ++ pulls_shown setup events device moment session))

-- The parts of a router are where its course led.
pub record Stand (setup : Setup) (events : List Event) (parts : Parts) : Type 0 where
  pub at : IsAt setup events parts
  pub whole : IsWhole setup
  pub closable : IsClosable setup

-- A session is due at this moment, over these queues.
abbrev pub IsSessionDue : SessionLists → List Queue → Option ℕ → Type 0
IsSessionDue session queues due = IsDue (tree_could_emit session.tree session.log (λ q. nat_lt 0 (length (packets_at queues q)))) (counted_moment (progress_of session)) due
