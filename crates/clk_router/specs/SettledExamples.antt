-- Courses of two devices that are settled or accounted for, and courses that are not, which differ in one thing.
use Rattle.std.specs.Prelude.{ℕ, List, [], ◌∷◌, codes, Some, None, true, false}
use Rattle.std.proofs.Common.{lit≤}
use Rattle.clk_packet.specs.declared.packet.Packet.{Packet}
use Rattle.clk_packet.specs.declared.packet.Kind.TheVariants.{TailDrop, FrontDrop}
use Rattle.clk_packet.specs.declared.packet.Offered.TheVariants.{Accepted, Refused, Evicted}
use Rattle.clk_packet.specs.Packets.{packet}
use Rattle.clk_packet.specs.Scheduler.{drr}
use Rattle.clk_sched.specs.Tree.{end, leaf, queue, scheduler}
use Rattle.clk_sched.specs.Keeps.{keeps_nothing}
use Rattle.clk_sched.specs.Log.{asking}
use Rattle.clk_sched.specs.Examples.{look}
use Rattle.clk_sched.specs.Examples.Priority.{p0_0, p1_0}
use Rattle.clk_router.specs.Course.{Course}
use Rattle.clk_router.specs.Events.{Setup, Event, offered, pulled}

-- sender 0's second packet
abbrev pub p0_1 : Packet
p0_1 = packet 0 1 100 (lit≤ tt) (lit≤ tt)

-- sender 1's second packet
abbrev pub p1_1 : Packet
p1_1 = packet 1 1 50 (lit≤ tt) (lit≤ tt)

-- the first packet of sender 7, which no setup here has
abbrev pub p7_0 : Packet
p7_0 = packet 7 0 100 (lit≤ tt) (lit≤ tt)

-- Device 0 has a Queue, to which sender 0 sends, and device 1 a FrontDropQueue, to which sender 1 sends.
abbrev pub two_devices : Setup
two_devices = record {
  trees = queue 0 ∷ queue 1 ∷ [];
  queues = record { kind = TailDrop; capacity = 2; device = 0 } ∷ record { kind = FrontDrop; capacity = 2; device = 1 } ∷ [];
  senders = record { number = 0; queue = 0 } ∷ record { number = 1; queue = 1 } ∷ [];
  names = codes "s" ∷ codes "t" ∷ [];
}

-- pull k of a device, in which its queue gives this packet and the device emits it
abbrev pub emits : ℕ → ℕ → Packet → Event
emits d k p = pulled d 0 (asking k 0 0 0 (Some p) ∷ [])

-- the course of these events over the two devices
abbrev pub course_of : List Event → Course
course_of events = record { setup = two_devices; events = events; keeps = keeps_nothing }

-- a packet is accepted, and its queue's device emits it
abbrev pub emitted_there : List Event
emitted_there = offered p0_0 Accepted ∷ emits 0 0 p0_0 ∷ []

-- a packet is accepted, and the other device emits it
abbrev pub emitted_elsewhere : List Event
emitted_elsewhere = offered p0_0 Accepted ∷ emits 1 0 p0_0 ∷ []

-- a packet is accepted, and no device emits it
abbrev pub left_inside : List Event
left_inside = offered p0_0 Accepted ∷ []

-- a packet is emitted twice
abbrev pub emitted_twice : List Event
emitted_twice = offered p0_0 Accepted ∷ emits 0 0 p0_0 ∷ emits 0 1 p0_0 ∷ []

-- a packet is emitted that was never offered
abbrev pub never_offered : List Event
never_offered = emits 0 0 p0_0 ∷ []

-- two packets are accepted, and emitted in the other order
abbrev pub swapped : List Event
swapped = offered p0_0 Accepted ∷ offered p0_1 Accepted ∷ emits 0 0 p0_1 ∷ emits 0 1 p0_0 ∷ []

-- two packets are emitted in one pull
abbrev pub two_in_a_pull : List Event
two_in_a_pull = offered p0_0 Accepted ∷ offered p0_1 Accepted ∷ pulled 0 0 (asking 0 0 0 0 (Some p0_0) ∷ asking 0 0 0 0 (Some p0_1) ∷ []) ∷ []

-- a packet that was refused is emitted
abbrev pub refused_emitted : List Event
refused_emitted = offered p0_0 Accepted ∷ offered p0_1 (Refused p0_1) ∷ emits 0 0 p0_0 ∷ emits 0 1 p0_1 ∷ []

-- a packet is held as accepted, and then refused
abbrev pub refused_held : List Event
refused_held = offered p0_0 Accepted ∷ offered p0_0 (Refused p0_0) ∷ []

-- a packet is emitted, and evicted after that
abbrev pub evicted_emitted : List Event
evicted_emitted = offered p1_0 Accepted ∷ emits 1 0 p1_0 ∷ offered p1_1 (Evicted p1_0) ∷ []

-- a Queue evicts a packet
abbrev pub queue_evicts : List Event
queue_evicts = offered p0_0 Accepted ∷ offered p0_1 (Evicted p0_0) ∷ emits 0 0 p0_1 ∷ []

-- a FrontDropQueue refuses a packet
abbrev pub front_drop_refuses : List Event
front_drop_refuses = offered p1_0 Accepted ∷ offered p1_1 (Refused p1_1) ∷ emits 1 0 p1_0 ∷ []

-- a packet of an unknown sender is emitted
abbrev pub stranger_emitted : List Event
stranger_emitted = emits 0 0 p7_0 ∷ []

-- a packet of an unknown sender is emitted in place of one that was accepted
abbrev pub lost : List Event
lost = offered p0_0 Accepted ∷ emits 0 0 p7_0 ∷ []

-- the device gets a packet and does not emit it, which no run allows
abbrev pub got_not_emitted : List Event
got_not_emitted = pulled 0 0 (look 0 0 0 0 true (Some p7_0) false ∷ []) ∷ []

-- a DRRSched of quantum 50 over a Queue
abbrev pub one_drr : Setup
one_drr = record {
  trees = scheduler (drr (50 ∷ [])) (leaf 0 end) ∷ [];
  queues = record { kind = TailDrop; capacity = 2; device = 0 } ∷ [];
  senders = record { number = 0; queue = 0 } ∷ [];
  names = codes "s" ∷ [];
}

-- the DRRSched holds the first of two packets as a head
abbrev pub head_held : List Event
head_held = offered p0_0 Accepted ∷ offered p0_1 Accepted ∷ pulled 0 0 (look 0 0 1 0 true (Some p0_0) false ∷ asking 0 0 0 0 None ∷ []) ∷ []

-- the DRRSched holds a packet of an unknown sender as a head
abbrev pub stranger_held : List Event
stranger_held = pulled 0 0 (look 0 0 1 0 true (Some p7_0) false ∷ asking 0 0 0 0 None ∷ []) ∷ []

-- the queue of each device stands in the tree of the other
abbrev pub crossed : Setup
crossed = record { trees = queue 1 ∷ queue 0 ∷ []; queues = two_devices.queues; senders = two_devices.senders; names = two_devices.names }

-- a queue of a device without a tree
abbrev pub without_tree : Setup
without_tree = record { trees = []; queues = record { kind = TailDrop; capacity = 2; device = 0 } ∷ []; senders = []; names = [] }

-- a tree over a queue that does not exist
abbrev pub without_queue : Setup
without_queue = record { trees = queue 0 ∷ []; queues = []; senders = []; names = [] }
