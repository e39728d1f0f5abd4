-- Logs of worked examples of schedulers below schedulers, and some that are no runs.
use Rattle.std.specs.Prelude.{List, [], ◌∷◌, Some, None, true, false}
use Rattle.std.proofs.Common.{lit≤}
use Rattle.clk_sched.specs.declared.visit.Visit.{Visit}
use Rattle.clk_packet.specs.Scheduler.{prio, round_robin, drr}
use Rattle.clk_sched.specs.Tree.{Tree, end, leaf, node, scheduler}
use Rattle.clk_sched.specs.Log.{asking}
use Rattle.clk_packet.specs.Packets.{packet}
use Rattle.clk_sched.specs.Examples.{look}
use Rattle.clk_packet.specs.declared.packet.Packet.{Packet}

-- packet 0 of sender 0, of 5 bytes. The packets below are named alike: by sender, number and, if others share these, length.
abbrev pub p0_0_5 : Packet
p0_0_5 = packet 0 0 5 (lit≤ tt) (lit≤ tt)

abbrev pub p0_0_10 : Packet
p0_0_10 = packet 0 0 10 (lit≤ tt) (lit≤ tt)

abbrev pub p1_0_5 : Packet
p1_0_5 = packet 1 0 5 (lit≤ tt) (lit≤ tt)

abbrev pub p1_0_10 : Packet
p1_0_10 = packet 1 0 10 (lit≤ tt) (lit≤ tt)

abbrev pub p2_0_5 : Packet
p2_0_5 = packet 2 0 5 (lit≤ tt) (lit≤ tt)

abbrev pub p2_0_10 : Packet
p2_0_10 = packet 2 0 10 (lit≤ tt) (lit≤ tt)

abbrev pub p2_1 : Packet
p2_1 = packet 2 1 5 (lit≤ tt) (lit≤ tt)

-- A PrioSched over a PrioSched: the visits of the inner one stand before the visit that asked it.
abbrev pub two_levels : List Visit
two_levels =
    asking 0 0 2 0 None ∷ asking 0 0 2 1 (Some p1_0_10) ∷ asking 0 0 1 0 (Some p1_0_10) ∷ asking 0 0 0 0 (Some p1_0_10) ∷ []

abbrev pub two_levels_tree : Tree
two_levels_tree = scheduler prio (node prio (leaf 0 (leaf 1 end)) end)

-- `two_levels`, but the visits of the inner PrioSched stand after the visit that asked it
abbrev pub outer_first : List Visit
outer_first =
    asking 0 0 1 0 (Some p1_0_10) ∷ asking 0 0 2 0 None ∷ asking 0 0 2 1 (Some p1_0_10) ∷ asking 0 0 0 0 (Some p1_0_10) ∷ []

-- `two_levels`, but the inner PrioSched doesn't ask its first input
abbrev pub inner_disobeys : List Visit
inner_disobeys =
    asking 0 0 2 1 (Some p1_0_10) ∷ asking 0 0 1 0 (Some p1_0_10) ∷ asking 0 0 0 0 (Some p1_0_10) ∷ []

-- `two_levels`, but the outer PrioSched got a packet though the inner one found none
abbrev pub made_from_nothing : List Visit
made_from_nothing =
    asking 0 0 2 0 None ∷ asking 0 0 2 1 None ∷ asking 0 0 1 0 (Some p1_0_10) ∷ asking 0 0 0 0 (Some p1_0_10) ∷ []

-- A PrioSched over two DRRScheds of quantum 5, the first over a RoundRobinSched: one pull leaves a head of each queue.
abbrev pub three_heads : List Visit
three_heads =
    asking 0 0 3 0 (Some p0_0_10) ∷ look 0 0 2 0 true (Some p0_0_10) false ∷ asking 0 0 1 0 None ∷
    look 0 0 4 0 true (Some p1_0_10) false ∷ look 0 0 4 1 true (Some p2_0_10) false ∷ asking 0 0 1 1 None ∷
    asking 0 0 0 0 None ∷ []

abbrev pub three_heads_tree : Tree
three_heads_tree = scheduler prio (node (drr (5 ∷ [])) (node round_robin (leaf 0 end) end) (node (drr (5 ∷ 5 ∷ [])) (leaf 1 (leaf 2 end)) end))

-- `three_heads`, but the last scheduler is numbered 5, with a gap before it
abbrev pub number_skipped : List Visit
number_skipped =
    asking 0 0 3 0 (Some p0_0_10) ∷ look 0 0 2 0 true (Some p0_0_10) false ∷ asking 0 0 1 0 None ∷
    look 0 0 5 0 true (Some p1_0_10) false ∷ look 0 0 5 1 true (Some p2_0_10) false ∷ asking 0 0 1 1 None ∷
    asking 0 0 0 0 None ∷ []

-- Over three_heads_tree: the other queues are empty, and the third gives a packet within its deficit.
abbrev pub last_gives : List Visit
last_gives =
    asking 0 0 3 0 None ∷ asking 0 0 2 0 None ∷ asking 0 0 1 0 None ∷
    asking 0 0 4 0 None ∷ asking 0 0 4 1 (Some p2_0_5) ∷ asking 0 0 1 1 (Some p2_0_5) ∷ asking 0 0 0 0 (Some p2_0_5) ∷ []

-- `last_gives`, but what the last scheduler passed is lost above it
abbrev pub last_result_lost : List Visit
last_result_lost =
    asking 0 0 3 0 None ∷ asking 0 0 2 0 None ∷ asking 0 0 1 0 None ∷
    asking 0 0 4 0 None ∷ asking 0 0 4 1 (Some p2_0_5) ∷ asking 0 0 1 1 None ∷ asking 0 0 0 0 None ∷ []

-- A PrioSched over two PrioScheds, the first over two RoundRobinScheds, where the last queue alone has a packet.
abbrev pub last_of_five : List Visit
last_of_five =
    asking 0 0 3 0 None ∷ asking 0 0 2 0 None ∷ asking 0 0 4 0 None ∷ asking 0 0 2 1 None ∷ asking 0 0 1 0 None ∷
    asking 0 0 5 0 (Some p2_0_5) ∷ asking 0 0 1 1 (Some p2_0_5) ∷ asking 0 0 0 0 (Some p2_0_5) ∷ []

abbrev pub last_of_five_tree : Tree
last_of_five_tree =
    scheduler prio (node prio (node round_robin (leaf 0 end) (node round_robin (leaf 1 end) end)) (node prio (leaf 2 end) end))

-- A PrioSched over two DRRScheds of quanta 3 and 5, the first over another of quantum 5. The innermost holds the first queue's packet and
-- passes the second's, which the one above it holds. The last holds the third's.
abbrev pub each_holds : List Visit
each_holds =
    look 0 0 3 0 true (Some p0_0_10) false ∷ asking 0 0 3 1 (Some p1_0_5) ∷ look 0 0 2 0 true (Some p1_0_5) false ∷
    asking 0 0 1 0 None ∷ look 0 0 4 0 true (Some p2_0_10) false ∷ asking 0 0 1 1 None ∷ asking 0 0 0 0 None ∷ []

abbrev pub each_holds_tree : Tree
each_holds_tree =
    scheduler prio (node (drr (3 ∷ [])) (node (drr (5 ∷ 5 ∷ [])) (leaf 0 (leaf 1 end)) end) (node (drr (5 ∷ [])) (leaf 2 end) end))

-- `each_holds`, but the last scheduler passes the third queue's packet, which is longer than its deficit
abbrev pub last_disobeys : List Visit
last_disobeys =
    look 0 0 3 0 true (Some p0_0_10) false ∷ asking 0 0 3 1 (Some p1_0_5) ∷ look 0 0 2 0 true (Some p1_0_5) false ∷
    asking 0 0 1 0 None ∷ asking 0 0 4 0 (Some p2_0_10) ∷ asking 0 0 1 1 (Some p2_0_10) ∷
    asking 0 0 0 0 (Some p2_0_10) ∷ []

-- A DRRSched of quanta 5 and 10 over a PrioSched and a queue. The packet of the PrioSched's second input is held over one
-- pull and then passed, and after it that of its first input.
abbrev pub passed_later : List Visit
passed_later =
    asking 0 0 2 0 None ∷ asking 0 0 2 1 (Some p1_0_10) ∷ look 0 0 1 0 true (Some p1_0_10) false ∷
    asking 0 0 1 1 (Some p2_0_5) ∷ asking 0 0 0 0 (Some p2_0_5) ∷
    asking 1 0 1 1 (Some p2_1) ∷ asking 1 0 0 0 (Some p2_1) ∷
    asking 2 0 1 1 None ∷ look 2 0 1 0 false (Some p1_0_10) true ∷ asking 2 0 0 0 (Some p1_0_10) ∷
    asking 3 0 2 0 (Some p0_0_5) ∷ look 3 0 1 0 true (Some p0_0_5) false ∷ asking 3 0 1 1 None ∷ asking 3 0 0 0 None ∷
    look 4 0 1 0 false (Some p0_0_5) true ∷ asking 4 0 0 0 (Some p0_0_5) ∷ []

abbrev pub passed_later_tree : Tree
passed_later_tree = scheduler (drr (5 ∷ 10 ∷ [])) (node prio (leaf 0 (leaf 1 end)) (leaf 2 end))

-- two DRRScheds side by side, of quanta 500 and 300
abbrev pub side_by_side_tree : Tree
side_by_side_tree = scheduler prio (node (drr (500 ∷ [])) (leaf 0 end) (node (drr (300 ∷ [])) (leaf 1 end) end))

-- a RoundRobinSched over two DRRScheds of quanta 500 and 300, the first below a PrioSched
abbrev pub uneven_tree : Tree
uneven_tree =
    scheduler round_robin (node prio (node (drr (500 ∷ [])) (leaf 0 end) end) (node (drr (300 ∷ [])) (leaf 1 end) end))

-- a RoundRobinSched over a queue, a DRRSched of quantum 300, and one of quantum 500 below a PrioSched
abbrev pub turned_tree : Tree
turned_tree =
    scheduler round_robin (leaf 2 (node (drr (300 ∷ [])) (leaf 1 end) (node prio (node (drr (500 ∷ [])) (leaf 0 end) end) end)))
