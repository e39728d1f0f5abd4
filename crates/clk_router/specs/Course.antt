-- What has happened to a router, what it can do next, and what its calls do.
use Rattle.std.specs.Prelude.{◌≡◌, ℕ, ◌+◌, ◌<◌, ◌≤◌, ◌^◌, List, [], ◌∷◌, ◌++◌, length, map, reverse, fold, max, Option, Some, None, slice_get}
use Rattle.std.specs.List.{filter_map, range_with_len}
use Rattle.std.specs.Option.{option_map}
use Rattle.clk_packet.specs.declared.packet.Packet.{Packet}
use Rattle.clk_sched.specs.declared.session.departures.Departure.{Departure}
use Rattle.clk_sched.specs.declared.session.keeps.Keeps.{Keeps}
use Rattle.clk_sched.specs.declared.visit.Visit.{Visit}
use Rattle.clk_sched.specs.Departures.{departures_in}
use Rattle.clk_sched.specs.declared.limits.TheConstants.{MAX_LEFT, END_OF_MOMENTS, END_OF_DRAINS, END_OF_PULLS, END_OF_DRAINED_PULLS}
use Rattle.clk_sched.specs.Log.{visits_of, moment_of, result_of}
use Rattle.clk_sched.specs.Results.{emitted}
use Rattle.clk_sched.specs.Session.{latest_of}
use Rattle.clk_sched.specs.Tree.{Tree}
use Rattle.clk_tree.specs.declared.plan.parts.SenderSpec.{SenderSpec}
use Rattle.clk_tree.specs.Plan.{Planned}
use Rattle.clk_tree.specs.Shares.{AreTreesOf}
use Rattle.clk_ring.specs.QueueHistory.{held}
use Rattle.clk_router.specs.declared.limits.TheConstants.{END_OF_PACKETS}
use Rattle.clk_router.specs.declared.queue_state.QueueState.{QueueState}
use Rattle.clk_router.specs.Events.{Room, Setup, plan_setup, sender_numbers, Event, pulled, events_at, numbers_of, pull_in, moment_in, log_of, accepted_in, evicted_in, history, Closes}

-- a router as contracts see it: its setup, all events so far, in order, and what its devices keep of them
pub record Course : Type 0 where
  pub setup : Setup
  pub events : List Event
  pub keeps : Keeps

-- the course with more events
abbrev pub after : Course → List Event → Course
after c more = record { setup = c.setup; events = c.events ++ more; keeps = c.keeps }

-- the events at a device
abbrev pub events_of : Course → ℕ → List Event
events_of c device = events_at c.setup device c.events

-- how many packets were accepted at a device
abbrev pub accepted_at : Course → ℕ → ℕ
accepted_at c device = length (filter_map accepted_in (events_of c device))

-- how many packets were evicted at a device
abbrev pub evicted_at : Course → ℕ → ℕ
evicted_at c device = length (filter_map evicted_in (events_of c device))

-- how many packets a device emitted
abbrev pub emitted_at : Course → ℕ → ℕ
emitted_at c device = length (emitted (log_of (events_of c device)))

-- how often a device was pulled
abbrev pub pulls_at : Course → ℕ → ℕ
pulls_at c device = length (filter_map pull_in (events_of c device))

-- the latest moment of a device: the greatest at which it was pulled, or 0
abbrev pub moment_at : Course → ℕ → ℕ
moment_at c device = fold max 0 (filter_map moment_in (events_of c device))

-- the visits of a device's latest pull, or none before the first
abbrev pub latest_visits : Course → ℕ → List Visit
latest_visits c device = latest_of (reverse (filter_map pull_in (events_of c device)))

-- the number of the sender at a place
abbrev pub sender_at : Setup → ℕ → Option ℕ
sender_at setup place = slice_get (sender_numbers setup) place

-- the number of the device that emits a queue's packets
abbrev pub room_device : Room → ℕ
room_device room = room.device

-- the number of the device that emits a sender's packets, if the sender and its queue exist
abbrev pub its_device : List Room → Option SenderSpec → Option ℕ
its_device queues None = None
its_device queues (Some s) = option_map room_device (slice_get queues s.queue)

-- the number of the device that emits the packets of the sender at a place
abbrev pub device_at : Setup → ℕ → Option ℕ
device_at setup place = its_device setup.queues (slice_get setup.senders place)

-- The sender at a place can offer a packet: it exists, has offered fewer than 2^32 - 1 packets, and its device takes one more.
pub record CanOffer (c : Course) (place : ℕ) : Type 0 where
  pub there : place < length c.setup.senders
  pub numbers : (sender : ℕ) → sender_at c.setup place ≡ Some sender → length (numbers_of sender c.events) + 1 < 2 ^ 32
  pub packets : (device : ℕ) → device_at c.setup place ≡ Some device → accepted_at c device < END_OF_PACKETS + evicted_at c device

-- A device can be pulled at a moment: it exists, the moment is below 2^44, and it was pulled fewer than 2^63 times.
pub record CanPull (c : Course) (device moment : ℕ) : Type 0 where
  pub there : device < length c.setup.trees
  pub moments : moment < END_OF_MOMENTS
  pub pulls : pulls_at c device < END_OF_PULLS

-- A device can be drained from a moment on: it exists, no more is left than a drain may emit, and neither moments nor its pulls are near
-- their end.
pub record CanClose (c : Course) (device moment : ℕ) : Type 0 where
  pub there : device < length c.setup.trees
  pub left : accepted_at c device ≤ evicted_at c device + emitted_at c device + MAX_LEFT
  pub moments : max (moment_at c device) moment < END_OF_DRAINS
  pub pulls : pulls_at c device < END_OF_DRAINED_PULLS

-- A router was made over a plan.
pub record IsOpened (plan : List Planned) (keeps : Keeps) (c : Course) : Type 0 where
  pub trees : List Tree
  pub are : AreTreesOf plan trees
  pub is : c ≡ record { setup = plan_setup trees plan; events = []; keeps = keeps }

-- A device was pulled once, with this result.
pub record IsPulled (old new : Course) (device moment : ℕ) (got : Option Packet) : Type 0 where
  pub visits : List Visit
  pub result : result_of (visits_of 0 visits) ≡ got
  pub goes_on : new ≡ after old (pulled device moment visits ∷ [])

-- A device was drained from a moment on. These are the packets that it emitted, with their moments.
pub record IsClosed (old new : Course) (device moment : ℕ) (departures : List Departure) : Type 0 where
  pub last : List Event
  pub closes : Closes device moment (events_of old device) last
  pub emitted : departures ≡ departures_in closes.closing
  pub moments : map moment_of closes.closing ≡ range_with_len (max (moment_at old device) moment + 1) (length closes.closing)
  pub goes_on : new ≡ after old last

-- A queue is in this state: it was declared with this kind, capacity and device, and it holds as many packets as its history leaves in it.
pub record IsQueueState (c : Course) (number : ℕ) (queue : QueueState) : Type 0 where
  pub declared : slice_get c.setup.queues number ≡ Some (record { kind = queue.kind; capacity = queue.capacity; device = queue.device })
  pub holds : queue.held ≡ length (held (history c.setup number c.events))
