-- Outcomes of worked examples, and some that aren't settled.
use Rattle.std.specs.Prelude.{ℕ, ◌==◌, List, [], ◌∷◌, Some, None, true, false, if◌then◌else◌}
use Rattle.std.proofs.Common.{lit≤}
use Rattle.clk_packet.specs.Packets.{packet}
use Rattle.clk_packet.specs.declared.packet.Packet.{Packet}
use Rattle.clk_packet.specs.declared.packet.Kind.{Kind}
use Rattle.clk_packet.specs.declared.packet.Kind.TheVariants.{TailDrop, FrontDrop}
use Rattle.clk_packet.specs.declared.tally.Tally.{Tally}
use Rattle.clk_sched.specs.declared.visit.Visit.{Visit}
use Rattle.clk_packet.specs.Scheduler.{prio, drr}
use Rattle.clk_sched.specs.Tree.{Tree, queue, scheduler, leaf, end}
use Rattle.clk_sched.specs.Log.{asking}
use Rattle.clk_sched.specs.Examples.{look}
use Rattle.clk_sched.specs.Examples.Priority.{p0_0, p1_0, p2_0}
use Rattle.clk_drain.specs.Outcome.{Device}
use Rattle.clk_tree.specs.PlanParts.{SharedQueue}

-- the second packet of sender 0
abbrev pub p0_1 : Packet
p0_1 = packet 0 1 60 (lit≤ tt) (lit≤ tt)

-- the third packet of sender 0, which it never sends
abbrev pub p0_2 : Packet
p0_2 = packet 0 2 80 (lit≤ tt) (lit≤ tt)

-- what each sender sent, in all of these examples
abbrev pub sent : ℕ → List Packet
sent s = if s == 0 then p0_0 ∷ p0_1 ∷ [] else if s == 1 then p1_0 ∷ [] else if s == 2 then p2_0 ∷ [] else []

-- a queue by its parts
abbrev shared : ℕ → Kind → ℕ → List ℕ → SharedQueue
shared at kind capacity senders = record { leaf = at; kind = kind; capacity = capacity; senders = senders }

-- a device by its parts
abbrev device : Tree → List SharedQueue → List Visit → List Packet → Device
device tree queues log emitted = record { tree = tree; queues = queues; log = log; emitted = emitted }

-- a device over one queue, without a scheduler
abbrev over : SharedQueue → List Visit → List Packet → Device
over q log emitted = device (queue q.leaf) (q ∷ []) log emitted

-- a tally by its parts
abbrev pub tally : ℕ → (accepted refused evicted : List Packet) → Tally
tally s accepted refused evicted = record { sender = s; accepted = accepted; refused = refused; evicted = evicted }

-- device A's queue: a Queue of one packet, of sender 0
abbrev queue_a : SharedQueue
queue_a = shared 0 TailDrop 1 (0 ∷ [])

-- device B's queue: a FrontDropQueue of one packet, of senders 1 and 2
abbrev queue_b : SharedQueue
queue_b = shared 1 FrontDrop 1 (1 ∷ 2 ∷ [])

-- Device A emitted the first packet of sender 0. Its queue had refused the second.
abbrev pub device_a : Device
device_a = over queue_a (asking 0 1 0 0 (Some p0_0) ∷ []) (p0_0 ∷ [])

-- Device B emitted the packet of sender 2, for which its queue had evicted that of sender 1.
abbrev pub device_b : Device
device_b = over queue_b (asking 0 1 0 0 (Some p2_0) ∷ []) (p2_0 ∷ [])

-- sender 0's first packet was accepted, and its second refused
abbrev tally_0 : Tally
tally_0 = tally 0 (p0_0 ∷ []) (p0_1 ∷ []) []

-- sender 1's packet was accepted, and evicted later
abbrev pub tally_1 : Tally
tally_1 = tally 1 (p1_0 ∷ []) [] (p1_0 ∷ [])

-- sender 2's packet was accepted
abbrev pub tally_2 : Tally
tally_2 = tally 2 (p2_0 ∷ []) [] []

-- the tallies of all three senders
abbrev pub tallies : List Tally
tallies = tally_0 ∷ tally_1 ∷ tally_2 ∷ []

-- A's queue gave its packet once, and A emitted it twice
abbrev pub emitted_twice : Device
emitted_twice = over queue_a (asking 0 1 0 0 (Some p0_0) ∷ []) (p0_0 ∷ p0_0 ∷ [])

-- A's queue gave its packet twice, and A emitted it twice
abbrev pub given_twice : Device
given_twice = over queue_a (asking 0 1 0 0 (Some p0_0) ∷ asking 1 1 0 0 (Some p0_0) ∷ []) (p0_0 ∷ p0_0 ∷ [])

-- A's queue also gave the packet that it had refused, and A emitted it
abbrev pub refused_emitted : Device
refused_emitted = over queue_a (asking 0 1 0 0 (Some p0_0) ∷ asking 1 1 0 0 (Some p0_1) ∷ []) (p0_0 ∷ p0_1 ∷ [])

-- A emitted nothing, though its queue gave its packet
abbrev pub emitted_none : Device
emitted_none = over queue_a (asking 0 1 0 0 (Some p0_0) ∷ []) []

-- A's log is no run: the device asked an input that it doesn't have
abbrev pub asks_beside : Device
asks_beside = over queue_a (asking 0 1 0 1 (Some p0_0) ∷ []) (p0_0 ∷ [])

-- A's log is no run: the moment falls
abbrev pub moment_falls : Device
moment_falls = over queue_a (asking 0 1 0 0 (Some p0_0) ∷ asking 1 0 0 0 None ∷ []) (p0_0 ∷ [])

-- A's queue refused a packet, though it may hold three and accepted one
abbrev pub below_capacity : Device
below_capacity = over (shared 0 TailDrop 3 (0 ∷ [])) (asking 0 1 0 0 (Some p0_0) ∷ []) (p0_0 ∷ [])

-- A's DRRSched holds its packet as a head, and A emitted nothing
abbrev pub head_held : Device
head_held =
    device (scheduler (drr (1 ∷ [])) (leaf 0 end)) (queue_a ∷ [])
    (look 0 1 1 0 true (Some p0_0) false ∷ asking 0 1 0 0 None ∷ []) []

-- A emitted its packet, and its DRRSched holds a packet of B's sender 1 as a head
abbrev pub other_held : Device
other_held =
    device (scheduler (drr (100 ∷ [])) (leaf 0 end)) (queue_a ∷ [])
    (asking 0 1 1 0 (Some p0_0) ∷ asking 0 1 0 0 (Some p0_0) ∷ look 1 1 1 0 true (Some p1_0) false ∷ asking 1 1 0 0 None ∷ []) (p0_0 ∷ [])

-- B's queue also gave the packet that A emitted, and B emitted it
abbrev pub other_emitted : Device
other_emitted = over queue_b (asking 0 1 0 0 (Some p2_0) ∷ asking 1 1 0 0 (Some p0_0) ∷ []) (p2_0 ∷ p0_0 ∷ [])

-- B's queue gave none, and the packet that it accepted last is nowhere
abbrev pub packet_lost : Device
packet_lost = over queue_b (asking 0 1 0 0 None ∷ []) []

-- the tallies with the evicted packet at sender 2 instead of sender 1
abbrev pub other_evicted : List Tally
other_evicted = tally_0 ∷ tally 1 (p1_0 ∷ []) [] [] ∷ tally 2 (p2_0 ∷ []) [] (p1_0 ∷ []) ∷ []

-- the tallies without the second packet of sender 0
abbrev pub packet_forgotten : List Tally
packet_forgotten = tally 0 (p0_0 ∷ []) [] [] ∷ tally_1 ∷ tally_2 ∷ []

-- the tallies without that of sender 1
abbrev pub tally_missing : List Tally
tally_missing = tally_0 ∷ tally_2 ∷ []

-- the tallies with that of sender 1 before that of sender 0
abbrev pub tallies_turned : List Tally
tallies_turned = tally_1 ∷ tally_0 ∷ tally_2 ∷ []

-- the tallies with that of sender 0 twice
abbrev pub tally_twice : List Tally
tally_twice = tally_0 ∷ tally_0 ∷ tally_1 ∷ tally_2 ∷ []

-- the tallies with one more, of a sender that sends to no queue
abbrev pub sender_unknown : List Tally
sender_unknown = tally_0 ∷ tally_1 ∷ tally_2 ∷ tally 5 [] [] [] ∷ []

-- A emitted another packet besides, which was never sent.
abbrev pub never_sent : Device
never_sent = over queue_a (asking 0 1 0 0 (Some p0_0) ∷ asking 1 1 0 0 (Some p0_2) ∷ []) (p0_0 ∷ p0_2 ∷ [])

-- the tallies with the packet that was never sent, as accepted
abbrev pub with_never_sent : List Tally
with_never_sent = tally 0 (p0_0 ∷ p0_2 ∷ []) (p0_1 ∷ []) [] ∷ tally_1 ∷ tally_2 ∷ []

-- A's queue, though a Queue, accepted both packets, and evicted the first for the second.
abbrev pub queue_evicts : Device
queue_evicts = over queue_a (asking 0 1 0 0 (Some p0_1) ∷ []) (p0_1 ∷ [])

-- the tallies with the first packet of sender 0 as evicted
abbrev pub with_first_evicted : List Tally
with_first_evicted = tally 0 (p0_0 ∷ p0_1 ∷ []) [] (p0_0 ∷ []) ∷ tally_1 ∷ tally_2 ∷ []

-- B's queue, though a FrontDropQueue, accepted the packet of sender 1 and refused that of sender 2.
abbrev pub front_drop_refuses : Device
front_drop_refuses = over queue_b (asking 0 1 0 0 (Some p1_0) ∷ []) (p1_0 ∷ [])

-- the tallies with the packet of sender 2 as refused
abbrev pub with_last_refused : List Tally
with_last_refused = tally_0 ∷ tally 1 (p1_0 ∷ []) [] [] ∷ tally 2 [] (p2_0 ∷ []) [] ∷ []

-- a Queue of two packets, for device A
abbrev queue_of_two : SharedQueue
queue_of_two = shared 0 TailDrop 2 (0 ∷ [])

-- A's queue of two packets accepted both of sender 0, and A emitted them in order.
abbrev pub both_out : Device
both_out = over queue_of_two (asking 0 1 0 0 (Some p0_0) ∷ asking 1 2 0 0 (Some p0_1) ∷ []) (p0_0 ∷ p0_1 ∷ [])

-- the tallies with both packets of sender 0 as accepted
abbrev pub with_both : List Tally
with_both = tally 0 (p0_0 ∷ p0_1 ∷ []) [] [] ∷ tally_1 ∷ tally_2 ∷ []

-- A's queue of two packets gave both in order, and A emitted them swapped
abbrev pub swapped_by_device : Device
swapped_by_device = over queue_of_two (asking 0 1 0 0 (Some p0_0) ∷ asking 1 2 0 0 (Some p0_1) ∷ []) (p0_1 ∷ p0_0 ∷ [])

-- A's queue of two packets gave both swapped, and A emitted them so
abbrev pub swapped_by_queue : Device
swapped_by_queue = over queue_of_two (asking 0 1 0 0 (Some p0_1) ∷ asking 1 2 0 0 (Some p0_0) ∷ []) (p0_1 ∷ p0_0 ∷ [])

-- B's queue, now of two packets, gave those of both its senders in order, but B emitted them swapped.
abbrev pub senders_swapped : Device
senders_swapped =
    over (shared 1 FrontDrop 2 (1 ∷ 2 ∷ [])) (asking 0 1 0 0 (Some p1_0) ∷ asking 1 2 0 0 (Some p2_0) ∷ []) (p2_0 ∷ p1_0 ∷ [])

-- the tallies with no packet as evicted
abbrev pub with_none_evicted : List Tally
with_none_evicted = tally_0 ∷ tally 1 (p1_0 ∷ []) [] [] ∷ tally_2 ∷ []

-- a PrioSched over both queues
abbrev both_queues : Tree
both_queues = scheduler prio (leaf 0 (leaf 1 end))

-- One device over both queues, below a PrioSched, emitted what A and B did.
abbrev pub device_ab : Device
device_ab =
    device both_queues (queue_a ∷ queue_b ∷ [])
    (asking 0 1 1 0 (Some p0_0) ∷ asking 0 1 0 0 (Some p0_0) ∷
    asking 1 2 1 0 None ∷ asking 1 2 1 1 (Some p2_0) ∷ asking 1 2 0 0 (Some p2_0) ∷ [])
    (p0_0 ∷ p2_0 ∷ [])

-- One device over both queues, where the second queue gave the packet that the first had accepted.
abbrev pub other_gave : Device
other_gave =
    device both_queues (queue_a ∷ queue_b ∷ [])
    (asking 0 1 1 0 None ∷ asking 0 1 1 1 (Some p0_0) ∷ asking 0 1 0 0 (Some p0_0) ∷
    asking 1 2 1 0 None ∷ asking 1 2 1 1 (Some p2_0) ∷ asking 1 2 0 0 (Some p2_0) ∷ [])
    (p0_0 ∷ p2_0 ∷ [])

-- One device over both queues, each of which gave a packet that the other had accepted.
abbrev pub exchanged : Device
exchanged =
    device both_queues (queue_a ∷ queue_b ∷ [])
    (asking 0 1 1 0 (Some p2_0) ∷ asking 0 1 0 0 (Some p2_0) ∷
    asking 1 2 1 0 None ∷ asking 1 2 1 1 (Some p0_0) ∷ asking 1 2 0 0 (Some p0_0) ∷ [])
    (p2_0 ∷ p0_0 ∷ [])
