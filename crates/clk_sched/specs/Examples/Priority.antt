-- Logs of worked examples of a PrioSched, and some that are no runs.
use Rattle.std.specs.Prelude.{List, [], ◌∷◌, Some, None, true, false}
use Rattle.std.proofs.Common.{lit≤}
use Rattle.clk_sched.specs.declared.visit.Visit.{Visit}
use Rattle.clk_packet.specs.Scheduler.{prio}
use Rattle.clk_sched.specs.Tree.{Tree, end, leaf, scheduler}
use Rattle.clk_sched.specs.Log.{asking}
use Rattle.clk_packet.specs.Packets.{packet}
use Rattle.clk_sched.specs.Examples.{look}
use Rattle.clk_packet.specs.declared.packet.Packet.{Packet}

-- packet 0 of sender 0, of 100 bytes. The packets below are named alike, by sender and number.
abbrev pub p0_0 : Packet
p0_0 = packet 0 0 100 (lit≤ tt) (lit≤ tt)

abbrev pub p1_0 : Packet
p1_0 = packet 1 0 50 (lit≤ tt) (lit≤ tt)

abbrev pub p2_0 : Packet
p2_0 = packet 2 0 70 (lit≤ tt) (lit≤ tt)

-- Two queues below a PrioSched give a packet each, and then none does.
abbrev pub two_queues : List Visit
two_queues =
    asking 0 0 1 0 (Some p0_0) ∷ asking 0 0 0 0 (Some p0_0) ∷
    asking 1 0 1 0 None ∷ asking 1 0 1 1 (Some p1_0) ∷ asking 1 0 0 0 (Some p1_0) ∷
    asking 2 0 1 0 None ∷ asking 2 0 1 1 None ∷ asking 2 0 0 0 None ∷ []

abbrev pub two_queues_tree : Tree
two_queues_tree = scheduler prio (leaf 0 (leaf 1 end))

-- `two_queues` without the visit of the second pull to the first queue, which was empty
abbrev pub visit_left_out : List Visit
visit_left_out =
    asking 0 0 1 0 (Some p0_0) ∷ asking 0 0 0 0 (Some p0_0) ∷
    asking 1 0 1 1 (Some p1_0) ∷ asking 1 0 0 0 (Some p1_0) ∷
    asking 2 0 1 0 None ∷ asking 2 0 1 1 None ∷ asking 2 0 0 0 None ∷ []

-- `two_queues` with the visit of the second pull to the first queue twice
abbrev pub visit_doubled : List Visit
visit_doubled =
    asking 0 0 1 0 (Some p0_0) ∷ asking 0 0 0 0 (Some p0_0) ∷
    asking 1 0 1 0 None ∷ asking 1 0 1 0 None ∷ asking 1 0 1 1 (Some p1_0) ∷ asking 1 0 0 0 (Some p1_0) ∷
    asking 2 0 1 0 None ∷ asking 2 0 1 1 None ∷ asking 2 0 0 0 None ∷ []

-- `two_queues`, but the packet of the second queue isn't marked as the result
abbrev pub passed_turned : List Visit
passed_turned =
    asking 0 0 1 0 (Some p0_0) ∷ asking 0 0 0 0 (Some p0_0) ∷
    asking 1 0 1 0 None ∷ look 1 0 1 1 true (Some p1_0) false ∷ asking 1 0 0 0 (Some p1_0) ∷
    asking 2 0 1 0 None ∷ asking 2 0 1 1 None ∷ asking 2 0 0 0 None ∷ []

-- `two_queues`, but in the first pull the device got another packet than the scheduler's result
abbrev pub other_result : List Visit
other_result =
    asking 0 0 1 0 (Some p0_0) ∷ asking 0 0 0 0 (Some p1_0) ∷
    asking 1 0 1 0 None ∷ asking 1 0 1 1 (Some p1_0) ∷ asking 1 0 0 0 (Some p1_0) ∷
    asking 2 0 1 0 None ∷ asking 2 0 1 1 None ∷ asking 2 0 0 0 None ∷ []

-- Over two_queues_tree: a visit has another moment than the rest of its pull
abbrev pub other_moment : List Visit
other_moment =
    asking 0 3 1 0 (Some p0_0) ∷ asking 0 5 0 0 (Some p0_0) ∷
    asking 1 6 1 0 None ∷ asking 1 6 1 1 None ∷ asking 1 6 0 0 None ∷ []

-- Over two_queues_tree: the second queue is asked though the first gave a packet
abbrev pub prio_goes_on : List Visit
prio_goes_on = asking 0 0 1 0 (Some p0_0) ∷ asking 0 0 1 1 None ∷ asking 0 0 0 0 (Some p0_0) ∷ []

-- Over two_queues_tree: the first queue is empty, and the second isn't asked
abbrev pub prio_stops_early : List Visit
prio_stops_early = asking 0 0 1 0 None ∷ asking 0 0 0 0 None ∷ []

-- Over two_queues_tree: a third input is asked, which isn't there
abbrev pub prio_asks_beside : List Visit
prio_asks_beside =
    asking 0 0 1 0 None ∷ asking 0 0 1 1 None ∷ asking 0 0 1 2 None ∷ asking 0 0 0 0 None ∷ []

-- Over two_queues_tree: a packet is taken from the first queue, which isn't asked
abbrev pub prio_unasked : List Visit
prio_unasked = look 0 0 1 0 false (Some p0_0) true ∷ asking 0 0 0 0 (Some p0_0) ∷ []

-- Over two_queues_tree: in the second pull the device got no packet though the scheduler's result is one
abbrev pub result_lost : List Visit
result_lost =
    asking 0 0 1 0 (Some p0_0) ∷ asking 0 0 0 0 (Some p0_0) ∷
    asking 1 0 1 0 None ∷ asking 1 0 1 1 (Some p1_0) ∷ asking 1 0 0 0 None ∷ []

-- The third of three queues below a PrioSched gives a packet, after the others had none.
abbrev pub third_gives : List Visit
third_gives =
    asking 0 0 1 0 None ∷ asking 0 0 1 1 None ∷ asking 0 0 1 2 (Some p2_0) ∷ asking 0 0 0 0 (Some p2_0) ∷ []

abbrev pub third_gives_tree : Tree
third_gives_tree = scheduler prio (leaf 0 (leaf 1 (leaf 2 end)))

-- `third_gives`, but the third queue isn't asked
abbrev pub third_left_out : List Visit
third_left_out = asking 0 0 1 0 None ∷ asking 0 0 1 1 None ∷ asking 0 0 0 0 None ∷ []
