-- Logs of worked examples of a RoundRobinSched, and some that are no runs.
use Rattle.std.specs.Prelude.{List, [], ◌∷◌, Some, None}
use Rattle.std.proofs.Common.{lit≤}
use Rattle.clk_sched.specs.declared.visit.Visit.{Visit}
use Rattle.clk_packet.specs.Scheduler.{round_robin}
use Rattle.clk_sched.specs.Tree.{Tree, end, leaf, scheduler}
use Rattle.clk_sched.specs.Log.{asking}
use Rattle.clk_packet.specs.Packets.{packet}
use Rattle.clk_packet.specs.declared.packet.Packet.{Packet}

-- packet 0 of sender 0, of 1 byte. The packets below are named alike: by sender, number and, if others share these, length.
abbrev pub p0_0_1 : Packet
p0_0_1 = packet 0 0 1 (lit≤ tt) (lit≤ tt)

abbrev pub p0_0_10 : Packet
p0_0_10 = packet 0 0 10 (lit≤ tt) (lit≤ tt)

abbrev pub p0_1 : Packet
p0_1 = packet 0 1 11 (lit≤ tt) (lit≤ tt)

abbrev pub p1_0 : Packet
p1_0 = packet 1 0 1 (lit≤ tt) (lit≤ tt)

abbrev pub p2_0 : Packet
p2_0 = packet 2 0 12 (lit≤ tt) (lit≤ tt)

abbrev pub p2_1 : Packet
p2_1 = packet 2 1 13 (lit≤ tt) (lit≤ tt)

-- Queue 0 has two packets and queue 2 has two, below a RoundRobinSched over three: they take turns.
abbrev pub three_in_turn : List Visit
three_in_turn =
    asking 0 0 1 0 (Some p0_0_10) ∷ asking 0 0 0 0 (Some p0_0_10) ∷
    asking 1 0 1 1 None ∷ asking 1 0 1 2 (Some p2_0) ∷ asking 1 0 0 0 (Some p2_0) ∷
    asking 2 0 1 0 (Some p0_1) ∷ asking 2 0 0 0 (Some p0_1) ∷
    asking 3 0 1 1 None ∷ asking 3 0 1 2 (Some p2_1) ∷ asking 3 0 0 0 (Some p2_1) ∷
    asking 4 0 1 0 None ∷ asking 4 0 1 1 None ∷ asking 4 0 1 2 None ∷ asking 4 0 0 0 None ∷ []

abbrev pub three_in_turn_tree : Tree
three_in_turn_tree = scheduler round_robin (leaf 0 (leaf 1 (leaf 2 end)))

-- A RoundRobinSched over two queues. It finds nothing in the second pull, so that the third begins at the same input.
abbrev pub none_keeps_beginning : List Visit
none_keeps_beginning =
    asking 0 0 1 0 (Some p0_0_1) ∷ asking 0 0 0 0 (Some p0_0_1) ∷
    asking 1 0 1 1 None ∷ asking 1 0 1 0 None ∷ asking 1 0 0 0 None ∷
    asking 2 0 1 1 (Some p1_0) ∷ asking 2 0 0 0 (Some p1_0) ∷ []

abbrev pub none_keeps_beginning_tree : Tree
none_keeps_beginning_tree = scheduler round_robin (leaf 0 (leaf 1 end))

-- Over three_in_turn_tree: a beginning that moves by one in each pull
abbrev pub moves_every_pull : List Visit
moves_every_pull =
    asking 0 0 1 0 (Some p0_0_10) ∷ asking 0 0 0 0 (Some p0_0_10) ∷
    asking 1 0 1 1 None ∷ asking 1 0 1 2 (Some p2_0) ∷ asking 1 0 0 0 (Some p2_0) ∷
    asking 2 0 1 2 (Some p2_1) ∷ asking 2 0 0 0 (Some p2_1) ∷ []

-- Over three_in_turn_tree: a beginning at the input that gave
abbrev pub begins_where_it_gave : List Visit
begins_where_it_gave =
    asking 0 0 1 0 (Some p0_0_10) ∷ asking 0 0 0 0 (Some p0_0_10) ∷
    asking 1 0 1 0 (Some p0_1) ∷ asking 1 0 0 0 (Some p0_1) ∷ []

-- Over none_keeps_beginning_tree: after the last input the first isn't asked
abbrev pub order_unwrapped : List Visit
order_unwrapped =
    asking 0 0 1 0 (Some p0_0_1) ∷ asking 0 0 0 0 (Some p0_0_1) ∷
    asking 1 0 1 1 None ∷ asking 1 0 0 0 None ∷ []

-- Over none_keeps_beginning_tree: a third input is asked, which isn't there
abbrev pub round_robin_asks_beside : List Visit
round_robin_asks_beside =
    asking 0 0 1 0 (Some p0_0_1) ∷ asking 0 0 0 0 (Some p0_0_1) ∷
    asking 1 0 1 1 None ∷ asking 1 0 1 2 None ∷ asking 1 0 0 0 None ∷ []
