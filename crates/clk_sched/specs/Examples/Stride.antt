-- Logs of worked examples of a StrideSched, and some that are no runs.
use Rattle.std.specs.Prelude.{List, [], ◌∷◌, Some, None, true, false}
use Rattle.std.proofs.Common.{lit≤}
use Rattle.clk_sched.specs.declared.visit.Visit.{Visit}
use Rattle.clk_packet.specs.Scheduler.{drr, stride}
use Rattle.clk_sched.specs.Tree.{Tree, end, leaf, node, scheduler}
use Rattle.clk_sched.specs.Log.{asking}
use Rattle.clk_packet.specs.Packets.{packet}
use Rattle.clk_sched.specs.Examples.{look}
use Rattle.clk_packet.specs.declared.packet.Packet.{Packet}

-- packet 0 of sender 0, of 1 byte. The packets below are named alike: by sender, number and, if others share these, length.
abbrev pub p0_0_1 : Packet
p0_0_1 = packet 0 0 1 (lit≤ tt) (lit≤ tt)

abbrev pub p0_0_10 : Packet
p0_0_10 = packet 0 0 10 (lit≤ tt) (lit≤ tt)

abbrev pub p0_0_25 : Packet
p0_0_25 = packet 0 0 25 (lit≤ tt) (lit≤ tt)

abbrev pub p0_1_1 : Packet
p0_1_1 = packet 0 1 1 (lit≤ tt) (lit≤ tt)

abbrev pub p0_1_10 : Packet
p0_1_10 = packet 0 1 10 (lit≤ tt) (lit≤ tt)

abbrev pub p0_2_1 : Packet
p0_2_1 = packet 0 2 1 (lit≤ tt) (lit≤ tt)

abbrev pub p0_2_10 : Packet
p0_2_10 = packet 0 2 10 (lit≤ tt) (lit≤ tt)

abbrev pub p0_3_1 : Packet
p0_3_1 = packet 0 3 1 (lit≤ tt) (lit≤ tt)

abbrev pub p0_3_10 : Packet
p0_3_10 = packet 0 3 10 (lit≤ tt) (lit≤ tt)

abbrev pub p0_4 : Packet
p0_4 = packet 0 4 1 (lit≤ tt) (lit≤ tt)

abbrev pub p1_0_1 : Packet
p1_0_1 = packet 1 0 1 (lit≤ tt) (lit≤ tt)

abbrev pub p1_0_5 : Packet
p1_0_5 = packet 1 0 5 (lit≤ tt) (lit≤ tt)

abbrev pub p1_0_20 : Packet
p1_0_20 = packet 1 0 20 (lit≤ tt) (lit≤ tt)

abbrev pub p1_1_1 : Packet
p1_1_1 = packet 1 1 1 (lit≤ tt) (lit≤ tt)

abbrev pub p1_1_5 : Packet
p1_1_5 = packet 1 1 5 (lit≤ tt) (lit≤ tt)

abbrev pub p1_1_20 : Packet
p1_1_20 = packet 1 1 20 (lit≤ tt) (lit≤ tt)

abbrev pub p1_2 : Packet
p1_2 = packet 1 2 5 (lit≤ tt) (lit≤ tt)

abbrev pub p2_0 : Packet
p2_0 = packet 2 0 1 (lit≤ tt) (lit≤ tt)

abbrev pub p2_1 : Packet
p2_1 = packet 2 1 1 (lit≤ tt) (lit≤ tt)

-- A StrideSched of 2 tickets and 1 over two queues that stay full.
abbrev pub two_to_one : List Visit
two_to_one =
    asking 0 0 1 0 (Some p0_0_10) ∷ asking 0 0 0 0 (Some p0_0_10) ∷
    asking 1 0 1 1 (Some p1_0_20) ∷ asking 1 0 0 0 (Some p1_0_20) ∷
    asking 2 0 1 0 (Some p0_1_10) ∷ asking 2 0 0 0 (Some p0_1_10) ∷
    asking 3 0 1 0 (Some p0_2_10) ∷ asking 3 0 0 0 (Some p0_2_10) ∷
    asking 4 0 1 1 (Some p1_1_20) ∷ asking 4 0 0 0 (Some p1_1_20) ∷
    asking 5 0 1 0 (Some p0_3_10) ∷ asking 5 0 0 0 (Some p0_3_10) ∷ []

abbrev pub two_to_one_tree : Tree
two_to_one_tree = scheduler (stride (2 ∷ 1 ∷ [])) (leaf 0 (leaf 1 end))

-- A StrideSched of 2 tickets and 1, whose second queue is idle at first.
abbrev pub idle_input : List Visit
idle_input =
    asking 0 0 1 0 (Some p0_0_10) ∷ asking 0 0 0 0 (Some p0_0_10) ∷
    asking 1 0 1 1 None ∷ asking 1 0 1 0 (Some p0_1_10) ∷ asking 1 0 0 0 (Some p0_1_10) ∷
    asking 2 0 1 1 (Some p1_0_20) ∷ asking 2 0 0 0 (Some p1_0_20) ∷
    asking 3 0 1 0 (Some p0_2_10) ∷ asking 3 0 0 0 (Some p0_2_10) ∷ []

abbrev pub idle_input_tree : Tree
idle_input_tree = scheduler (stride (2 ∷ 1 ∷ [])) (leaf 0 (leaf 1 end))

-- A StrideSched of 1 ticket and 1, whose second queue is idle for three pulls (the first five pulls).
abbrev pub idle_pass : List Visit
idle_pass =
    asking 0 0 1 0 (Some p0_0_1) ∷ asking 0 0 0 0 (Some p0_0_1) ∷
    asking 1 0 1 1 None ∷ asking 1 0 1 0 (Some p0_1_1) ∷ asking 1 0 0 0 (Some p0_1_1) ∷
    asking 2 0 1 1 None ∷ asking 2 0 1 0 (Some p0_2_1) ∷ asking 2 0 0 0 (Some p0_2_1) ∷
    asking 3 0 1 1 (Some p1_0_1) ∷ asking 3 0 0 0 (Some p1_0_1) ∷
    asking 4 0 1 0 (Some p0_3_1) ∷ asking 4 0 0 0 (Some p0_3_1) ∷ []

abbrev pub idle_pass_tree : Tree
idle_pass_tree = scheduler (stride (1 ∷ 1 ∷ [])) (leaf 0 (leaf 1 end))

-- A StrideSched of 1 ticket and 1 that finds nothing in the first pull.
abbrev pub none_changes_no_pass : List Visit
none_changes_no_pass =
    asking 0 0 1 0 None ∷ asking 0 0 1 1 None ∷ asking 0 0 0 0 None ∷
    asking 1 0 1 0 (Some p0_0_1) ∷ asking 1 0 0 0 (Some p0_0_1) ∷ []

abbrev pub none_changes_no_pass_tree : Tree
none_changes_no_pass_tree = scheduler (stride (1 ∷ 1 ∷ [])) (leaf 0 (leaf 1 end))

-- A StrideSched of 3 tickets and 1, whose strides are 21,845 and 65,536: three of the first stay just below one of the second.
abbrev pub rounds_down : List Visit
rounds_down =
    asking 0 0 1 0 (Some p0_0_1) ∷ asking 0 0 0 0 (Some p0_0_1) ∷
    asking 1 0 1 1 (Some p1_0_1) ∷ asking 1 0 0 0 (Some p1_0_1) ∷
    asking 2 0 1 0 (Some p0_1_1) ∷ asking 2 0 0 0 (Some p0_1_1) ∷
    asking 3 0 1 0 (Some p0_2_1) ∷ asking 3 0 0 0 (Some p0_2_1) ∷
    asking 4 0 1 0 (Some p0_3_1) ∷ asking 4 0 0 0 (Some p0_3_1) ∷
    asking 5 0 1 1 (Some p1_1_1) ∷ asking 5 0 0 0 (Some p1_1_1) ∷
    asking 6 0 1 0 (Some p0_4) ∷ asking 6 0 0 0 (Some p0_4) ∷ []

abbrev pub rounds_down_tree : Tree
rounds_down_tree = scheduler (stride (3 ∷ 1 ∷ [])) (leaf 0 (leaf 1 end))

-- A StrideSched of 1 ticket and 1 over a queue and a DRRSched of quantum 10 that holds a packet of 25 (the first four pulls).
abbrev pub over_held_head : List Visit
over_held_head =
    asking 0 0 1 0 (Some p1_0_5) ∷ asking 0 0 0 0 (Some p1_0_5) ∷
    look 1 0 2 0 true (Some p0_0_25) false ∷ asking 1 0 1 1 None ∷ asking 1 0 1 0 (Some p1_1_5) ∷ asking 1 0 0 0 (Some p1_1_5) ∷
    look 2 0 2 0 false (Some p0_0_25) false ∷ asking 2 0 1 1 None ∷ asking 2 0 1 0 (Some p1_2) ∷ asking 2 0 0 0 (Some p1_2) ∷
    look 3 0 2 0 false (Some p0_0_25) true ∷ asking 3 0 1 1 (Some p0_0_25) ∷ asking 3 0 0 0 (Some p0_0_25) ∷ []

abbrev pub over_held_head_tree : Tree
over_held_head_tree = scheduler (stride (1 ∷ 1 ∷ [])) (leaf 0 (node (drr (10 ∷ [])) (leaf 1 end) end))

-- Over idle_pass_tree: an idle input's pass is left behind, so that it is served twice in a row when it is back
abbrev pub pass_left_behind : List Visit
pass_left_behind =
    asking 0 0 1 0 (Some p0_0_1) ∷ asking 0 0 0 0 (Some p0_0_1) ∷
    asking 1 0 1 1 None ∷ asking 1 0 1 0 (Some p0_1_1) ∷ asking 1 0 0 0 (Some p0_1_1) ∷
    asking 2 0 1 1 None ∷ asking 2 0 1 0 (Some p0_2_1) ∷ asking 2 0 0 0 (Some p0_2_1) ∷
    asking 3 0 1 1 (Some p1_0_1) ∷ asking 3 0 0 0 (Some p1_0_1) ∷
    asking 4 0 1 1 (Some p1_1_1) ∷ asking 4 0 0 0 (Some p1_1_1) ∷ []

-- Over two_to_one_tree: inputs asked by index alone
abbrev pub lowest_index_first : List Visit
lowest_index_first =
    asking 0 0 1 0 (Some p0_0_10) ∷ asking 0 0 0 0 (Some p0_0_10) ∷
    asking 1 0 1 0 (Some p0_1_10) ∷ asking 1 0 0 0 (Some p0_1_10) ∷ []

-- Over rounds_down_tree: strides rounded up, so that three of the first are just above one of the second
abbrev pub rounds_up : List Visit
rounds_up =
    asking 0 0 1 0 (Some p0_0_1) ∷ asking 0 0 0 0 (Some p0_0_1) ∷
    asking 1 0 1 1 (Some p1_0_1) ∷ asking 1 0 0 0 (Some p1_0_1) ∷
    asking 2 0 1 0 (Some p0_1_1) ∷ asking 2 0 0 0 (Some p0_1_1) ∷
    asking 3 0 1 0 (Some p0_2_1) ∷ asking 3 0 0 0 (Some p0_2_1) ∷
    asking 4 0 1 1 (Some p1_1_1) ∷ asking 4 0 0 0 (Some p1_1_1) ∷ []

-- A StrideSched of 1 ticket, 2 and 4, whose first queue is empty at first. In the fourth pull the others are, and both get
-- the pass that the first had.
abbrev pub three_strides : List Visit
three_strides =
    asking 0 0 1 0 None ∷ asking 0 0 1 1 (Some p1_0_1) ∷ asking 0 0 0 0 (Some p1_0_1) ∷
    asking 1 0 1 0 (Some p0_0_1) ∷ asking 1 0 0 0 (Some p0_0_1) ∷
    asking 2 0 1 2 (Some p2_0) ∷ asking 2 0 0 0 (Some p2_0) ∷
    asking 3 0 1 2 None ∷ asking 3 0 1 1 None ∷ asking 3 0 1 0 (Some p0_1_1) ∷ asking 3 0 0 0 (Some p0_1_1) ∷
    asking 4 0 1 1 None ∷ asking 4 0 1 2 (Some p2_1) ∷ asking 4 0 0 0 (Some p2_1) ∷ []

abbrev pub three_strides_tree : Tree
three_strides_tree = scheduler (stride (1 ∷ 2 ∷ 4 ∷ [])) (leaf 0 (leaf 1 (leaf 2 end)))

-- `three_strides`, but the input of the least pass is asked first, and then the others by index
abbrev pub least_alone_first : List Visit
least_alone_first =
    asking 0 0 1 0 None ∷ asking 0 0 1 1 (Some p1_0_1) ∷ asking 0 0 0 0 (Some p1_0_1) ∷
    asking 1 0 1 0 (Some p0_0_1) ∷ asking 1 0 0 0 (Some p0_0_1) ∷
    asking 2 0 1 2 (Some p2_0) ∷ asking 2 0 0 0 (Some p2_0) ∷
    asking 3 0 1 2 None ∷ asking 3 0 1 0 (Some p0_1_1) ∷ asking 3 0 0 0 (Some p0_1_1) ∷ []

-- A StrideSched with tickets for two inputs over one queue, which can't be built: the second input is asked, which isn't there
abbrev pub stride_asks_beside : List Visit
stride_asks_beside = asking 0 0 1 0 None ∷ asking 0 0 1 1 None ∷ asking 0 0 0 0 None ∷ []

abbrev pub stride_asks_beside_tree : Tree
stride_asks_beside_tree = scheduler (stride (1 ∷ 1 ∷ [])) (leaf 0 end)
