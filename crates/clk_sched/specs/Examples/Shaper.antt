-- Logs of worked examples of a Shaper, and some that are no runs.
use Rattle.std.specs.Prelude.{List, [], ◌∷◌, Some, None}
use Rattle.std.proofs.Common.{lit≤}
use Rattle.clk_sched.specs.declared.visit.Visit.{Visit}
use Rattle.clk_packet.specs.Scheduler.{drr, shaper}
use Rattle.clk_sched.specs.Tree.{Tree, end, leaf, node, scheduler}
use Rattle.clk_sched.specs.Log.{asking}
use Rattle.clk_packet.specs.Packets.{packet}
use Rattle.clk_packet.specs.declared.packet.Packet.{Packet}

-- packet 0 of sender 0, of 1 byte. The packets below are named alike: by sender, number and, if others share these, length.
abbrev pub p0_0_1 : Packet
p0_0_1 = packet 0 0 1 (lit≤ tt) (lit≤ tt)

abbrev pub p0_0_10 : Packet
p0_0_10 = packet 0 0 10 (lit≤ tt) (lit≤ tt)

abbrev pub p0_0_300 : Packet
p0_0_300 = packet 0 0 300 (lit≤ tt) (lit≤ tt)

abbrev pub p0_1_1 : Packet
p0_1_1 = packet 0 1 1 (lit≤ tt) (lit≤ tt)

abbrev pub p0_1_10 : Packet
p0_1_10 = packet 0 1 10 (lit≤ tt) (lit≤ tt)

abbrev pub p0_1_300 : Packet
p0_1_300 = packet 0 1 300 (lit≤ tt) (lit≤ tt)

abbrev pub p0_2_1 : Packet
p0_2_1 = packet 0 2 1 (lit≤ tt) (lit≤ tt)

abbrev pub p0_2_10 : Packet
p0_2_10 = packet 0 2 10 (lit≤ tt) (lit≤ tt)

abbrev pub p0_3_1 : Packet
p0_3_1 = packet 0 3 1 (lit≤ tt) (lit≤ tt)

abbrev pub p0_3_10 : Packet
p0_3_10 = packet 0 3 10 (lit≤ tt) (lit≤ tt)

abbrev pub p0_4 : Packet
p0_4 = packet 0 4 1 (lit≤ tt) (lit≤ tt)

-- A Shaper of rate 1 and burst 2, pulled three times at moment 0, and later.
abbrev pub burst_of_two : List Visit
burst_of_two =
    asking 0 0 1 0 (Some p0_0_10) ∷ asking 0 0 0 0 (Some p0_0_10) ∷
    asking 1 0 1 0 (Some p0_1_10) ∷ asking 1 0 0 0 (Some p0_1_10) ∷
    asking 2 0 0 0 None ∷
    asking 3 1 1 0 (Some p0_2_10) ∷ asking 3 1 0 0 (Some p0_2_10) ∷
    asking 4 1 0 0 None ∷
    asking 5 2 1 0 (Some p0_3_10) ∷ asking 5 2 0 0 (Some p0_3_10) ∷ []

abbrev pub burst_of_two_tree : Tree
burst_of_two_tree = scheduler (shaper 1 2) (leaf 0 end)

-- A Shaper of rate 1 and burst 2, first pulled at moment 10.
abbrev pub late_burst : List Visit
late_burst =
    asking 0 10 1 0 (Some p0_0_10) ∷ asking 0 10 0 0 (Some p0_0_10) ∷
    asking 1 10 1 0 (Some p0_1_10) ∷ asking 1 10 0 0 (Some p0_1_10) ∷
    asking 2 10 0 0 None ∷ []

abbrev pub late_burst_tree : Tree
late_burst_tree = scheduler (shaper 1 2) (leaf 0 end)

-- A Shaper of rate 1 and burst 1 below a DRRSched.
abbrev pub below_deficit : List Visit
below_deficit =
    asking 0 0 2 0 (Some p0_0_300) ∷ asking 0 0 1 0 (Some p0_0_300) ∷ asking 0 0 0 0 (Some p0_0_300) ∷
    asking 1 0 1 0 None ∷ asking 1 0 0 0 None ∷
    asking 2 1 2 0 (Some p0_1_300) ∷ asking 2 1 1 0 (Some p0_1_300) ∷ asking 2 1 0 0 (Some p0_1_300) ∷ []

abbrev pub below_deficit_tree : Tree
below_deficit_tree = scheduler (drr (500 ∷ [])) (node (shaper 1 1) (leaf 0 end) end)

-- A Shaper of rate 1 and burst 1, pulled at moment 0 before its queue has a packet and after.
abbrev pub none_costs_nothing : List Visit
none_costs_nothing =
    asking 0 0 1 0 None ∷ asking 0 0 0 0 None ∷
    asking 1 0 1 0 (Some p0_0_1) ∷ asking 1 0 0 0 (Some p0_0_1) ∷ []

abbrev pub none_costs_nothing_tree : Tree
none_costs_nothing_tree = scheduler (shaper 1 1) (leaf 0 end)

-- A Shaper of rate 2 and burst 2, pulled three times at moments 0 and 1.
abbrev pub two_a_tick : List Visit
two_a_tick =
    asking 0 0 1 0 (Some p0_0_1) ∷ asking 0 0 0 0 (Some p0_0_1) ∷
    asking 1 0 1 0 (Some p0_1_1) ∷ asking 1 0 0 0 (Some p0_1_1) ∷
    asking 2 0 0 0 None ∷
    asking 3 1 1 0 (Some p0_2_1) ∷ asking 3 1 0 0 (Some p0_2_1) ∷
    asking 4 1 1 0 (Some p0_3_1) ∷ asking 4 1 0 0 (Some p0_3_1) ∷
    asking 5 1 0 0 None ∷ []

abbrev pub two_a_tick_tree : Tree
two_a_tick_tree = scheduler (shaper 2 2) (leaf 0 end)

-- A Shaper of rate 1 and burst 3, pulled three times at moments 0 and 2.
abbrev pub two_ticks_at_once : List Visit
two_ticks_at_once =
    asking 0 0 1 0 (Some p0_0_1) ∷ asking 0 0 0 0 (Some p0_0_1) ∷
    asking 1 0 1 0 (Some p0_1_1) ∷ asking 1 0 0 0 (Some p0_1_1) ∷
    asking 2 0 1 0 (Some p0_2_1) ∷ asking 2 0 0 0 (Some p0_2_1) ∷
    asking 3 2 1 0 (Some p0_3_1) ∷ asking 3 2 0 0 (Some p0_3_1) ∷
    asking 4 2 1 0 (Some p0_4) ∷ asking 4 2 0 0 (Some p0_4) ∷
    asking 5 2 0 0 None ∷ []

abbrev pub two_ticks_at_once_tree : Tree
two_ticks_at_once_tree = scheduler (shaper 1 3) (leaf 0 end)

-- A Shaper of rate 5 and burst 2, pulled three times at moments 0 and 9.
abbrev pub burst_below_rate : List Visit
burst_below_rate =
    asking 0 0 1 0 (Some p0_0_1) ∷ asking 0 0 0 0 (Some p0_0_1) ∷
    asking 1 0 1 0 (Some p0_1_1) ∷ asking 1 0 0 0 (Some p0_1_1) ∷
    asking 2 0 0 0 None ∷
    asking 3 9 1 0 (Some p0_2_1) ∷ asking 3 9 0 0 (Some p0_2_1) ∷
    asking 4 9 1 0 (Some p0_3_1) ∷ asking 4 9 0 0 (Some p0_3_1) ∷
    asking 5 9 0 0 None ∷ []

abbrev pub burst_below_rate_tree : Tree
burst_below_rate_tree = scheduler (shaper 5 2) (leaf 0 end)

-- Over late_burst_tree: three packets at once after idling, with a burst of two
abbrev pub fills_without_cap : List Visit
fills_without_cap =
    asking 0 10 1 0 (Some p0_0_10) ∷ asking 0 10 0 0 (Some p0_0_10) ∷
    asking 1 10 1 0 (Some p0_1_10) ∷ asking 1 10 0 0 (Some p0_1_10) ∷
    asking 2 10 1 0 (Some p0_2_10) ∷ asking 2 10 0 0 (Some p0_2_10) ∷ []

-- Over late_burst_tree: the input is asked though there is no room for a packet
abbrev pub asks_without_room : List Visit
asks_without_room =
    asking 0 10 1 0 (Some p0_0_10) ∷ asking 0 10 0 0 (Some p0_0_10) ∷
    asking 1 10 1 0 (Some p0_1_10) ∷ asking 1 10 0 0 (Some p0_1_10) ∷
    asking 2 10 1 0 None ∷ asking 2 10 0 0 None ∷ []

-- Over burst_of_two_tree: two packets in a tick, with a rate of one
abbrev pub rate_above : List Visit
rate_above =
    asking 0 0 1 0 (Some p0_0_10) ∷ asking 0 0 0 0 (Some p0_0_10) ∷
    asking 1 0 1 0 (Some p0_1_10) ∷ asking 1 0 0 0 (Some p0_1_10) ∷
    asking 2 1 1 0 (Some p0_2_10) ∷ asking 2 1 0 0 (Some p0_2_10) ∷
    asking 3 1 1 0 (Some p0_3_10) ∷ asking 3 1 0 0 (Some p0_3_10) ∷ []
