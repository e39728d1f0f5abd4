-- Logs of worked examples of a DRRSched, and some that are no runs.
use Rattle.std.specs.Prelude.{List, [], ◌∷◌, Some, None, true, false}
use Rattle.std.proofs.Common.{lit≤}
use Rattle.clk_sched.specs.declared.visit.Visit.{Visit}
use Rattle.clk_packet.specs.Scheduler.{prio, drr}
use Rattle.clk_sched.specs.Tree.{Tree, end, leaf, node, scheduler}
use Rattle.clk_sched.specs.Log.{asking}
use Rattle.clk_packet.specs.Packets.{packet}
use Rattle.clk_sched.specs.Examples.{look}
use Rattle.clk_packet.specs.declared.packet.Packet.{Packet}

-- packet 0 of sender 0, of 10 bytes. The packets below are named alike: by sender, number and, if others share these, length.
abbrev pub p0_0_10 : Packet
p0_0_10 = packet 0 0 10 (lit≤ tt) (lit≤ tt)

abbrev pub p0_0_500 : Packet
p0_0_500 = packet 0 0 500 (lit≤ tt) (lit≤ tt)

abbrev pub p0_0_600 : Packet
p0_0_600 = packet 0 0 600 (lit≤ tt) (lit≤ tt)

abbrev pub p0_0_700 : Packet
p0_0_700 = packet 0 0 700 (lit≤ tt) (lit≤ tt)

abbrev pub p0_0_1000 : Packet
p0_0_1000 = packet 0 0 1000 (lit≤ tt) (lit≤ tt)

abbrev pub p0_1_401 : Packet
p0_1_401 = packet 0 1 401 (lit≤ tt) (lit≤ tt)

abbrev pub p0_1_500 : Packet
p0_1_500 = packet 0 1 500 (lit≤ tt) (lit≤ tt)

abbrev pub p1_0_200 : Packet
p1_0_200 = packet 1 0 200 (lit≤ tt) (lit≤ tt)

abbrev pub p1_0_500 : Packet
p1_0_500 = packet 1 0 500 (lit≤ tt) (lit≤ tt)

abbrev pub p1_1_200 : Packet
p1_1_200 = packet 1 1 200 (lit≤ tt) (lit≤ tt)

abbrev pub p1_1_500 : Packet
p1_1_500 = packet 1 1 500 (lit≤ tt) (lit≤ tt)

abbrev pub p1_2 : Packet
p1_2 = packet 1 2 500 (lit≤ tt) (lit≤ tt)

abbrev pub p1_3 : Packet
p1_3 = packet 1 3 500 (lit≤ tt) (lit≤ tt)

-- A DRRSched of quantum 500 over a packet of 600 and two of 200, and then one of 401 that waits for its deficit.
abbrev pub two_deficits : List Visit
two_deficits =
    look 0 0 1 0 true (Some p0_0_600) false ∷ asking 0 0 1 1 (Some p1_0_200) ∷ asking 0 0 0 0 (Some p1_0_200) ∷
    asking 1 0 1 1 (Some p1_1_200) ∷ asking 1 0 0 0 (Some p1_1_200) ∷
    asking 2 0 1 1 None ∷ look 2 0 1 0 false (Some p0_0_600) true ∷ asking 2 0 0 0 (Some p0_0_600) ∷
    look 3 0 1 0 true (Some p0_1_401) false ∷ asking 3 0 1 1 None ∷ asking 3 0 0 0 None ∷
    look 4 0 1 0 false (Some p0_1_401) true ∷ asking 4 0 0 0 (Some p0_1_401) ∷ []

abbrev pub two_deficits_tree : Tree
two_deficits_tree = scheduler (drr (500 ∷ 500 ∷ [])) (leaf 0 (leaf 1 end))

-- A packet of 1000 below a DRRSched of quantum 500: held in the first pull, and passed in the second.
abbrev pub held_at_close : List Visit
held_at_close =
    look 0 0 1 0 true (Some p0_0_1000) false ∷ asking 0 0 0 0 None ∷
    look 1 1 1 0 false (Some p0_0_1000) true ∷ asking 1 1 0 0 (Some p0_0_1000) ∷ []

abbrev pub held_at_close_tree : Tree
held_at_close_tree = scheduler (drr (500 ∷ [])) (leaf 0 end)

-- A packet of 700 below a DRRSched of quantum 300 below one of quantum 500.
abbrev pub nested : List Visit
nested =
    look 0 0 2 0 true (Some p0_0_700) false ∷ asking 0 0 1 0 None ∷ asking 0 0 0 0 None ∷
    look 1 0 2 0 false (Some p0_0_700) false ∷ asking 1 0 1 0 None ∷ asking 1 0 0 0 None ∷
    look 2 0 2 0 false (Some p0_0_700) true ∷ look 2 0 1 0 true (Some p0_0_700) false ∷ asking 2 0 0 0 None ∷
    look 3 0 1 0 false (Some p0_0_700) true ∷ asking 3 0 0 0 (Some p0_0_700) ∷ []

abbrev pub nested_tree : Tree
nested_tree = scheduler (drr (500 ∷ [])) (node (drr (300 ∷ [])) (leaf 0 end) end)

-- A DRRSched of quantum 5 over a PrioSched over two queues, each with a packet of 10: one pull leaves the first's as a head.
abbrev pub head_below : List Visit
head_below =
    asking 0 0 2 0 (Some p0_0_10) ∷ look 0 0 1 0 true (Some p0_0_10) false ∷ asking 0 0 0 0 None ∷ []

abbrev pub head_below_tree : Tree
head_below_tree = scheduler (drr (5 ∷ [])) (node prio (leaf 0 (leaf 1 end)) end)

-- Over nested_tree: the outer scheduler keeps the deficit of an input found empty, and passes the packet a pull early
abbrev pub deficit_kept : List Visit
deficit_kept =
    look 0 0 2 0 true (Some p0_0_700) false ∷ asking 0 0 1 0 None ∷ asking 0 0 0 0 None ∷
    look 1 0 2 0 false (Some p0_0_700) false ∷ asking 1 0 1 0 None ∷ asking 1 0 0 0 None ∷
    look 2 0 2 0 false (Some p0_0_700) true ∷ asking 2 0 1 0 (Some p0_0_700) ∷ asking 2 0 0 0 (Some p0_0_700) ∷ []

-- Over held_at_close_tree: the input is asked though a packet is held there
abbrev pub asks_over_head : List Visit
asks_over_head =
    look 0 0 1 0 true (Some p0_0_1000) false ∷ asking 0 0 0 0 None ∷
    asking 1 1 1 0 None ∷ asking 1 1 0 0 None ∷ []

-- Over held_at_close_tree: the only input is visited twice in a pull
abbrev pub visits_twice : List Visit
visits_twice =
    look 0 0 1 0 true (Some p0_0_1000) false ∷ look 0 0 1 0 false (Some p0_0_1000) true ∷
    asking 0 0 0 0 (Some p0_0_1000) ∷ []

-- Over held_at_close_tree: a packet longer than the deficit is passed
abbrev pub passes_above_deficit : List Visit
passes_above_deficit =
    asking 0 0 1 0 (Some p0_0_1000) ∷ asking 0 0 0 0 (Some p0_0_1000) ∷ []

-- Over held_at_close_tree: what a packet left of the deficit is still there after the queue was found empty
abbrev pub deficit_outlives_none : List Visit
deficit_outlives_none =
    asking 0 0 1 0 (Some p1_0_200) ∷ asking 0 0 0 0 (Some p1_0_200) ∷
    asking 1 0 1 0 None ∷ asking 1 0 0 0 None ∷
    asking 2 0 1 0 (Some p0_0_700) ∷ asking 2 0 0 0 (Some p0_0_700) ∷ []

-- Over held_at_close_tree: the visit to the head is recorded as if the input had been asked
abbrev pub head_asked_anew : List Visit
head_asked_anew =
    look 0 0 1 0 true (Some p0_0_1000) false ∷ asking 0 0 0 0 None ∷
    asking 1 1 1 0 (Some p0_0_1000) ∷ asking 1 1 0 0 (Some p0_0_1000) ∷ []

-- Over held_at_close_tree: a head is looked at where none is held
abbrev pub looks_at_none : List Visit
looks_at_none = look 0 0 1 0 false (Some p0_0_500) true ∷ asking 0 0 0 0 (Some p0_0_500) ∷ []

-- Over held_at_close_tree: in the place of the head another packet is passed, which the deficit covers
abbrev pub passes_other_head : List Visit
passes_other_head =
    look 0 0 1 0 true (Some p0_0_1000) false ∷ asking 0 0 0 0 None ∷
    look 1 1 1 0 false (Some p1_0_200) true ∷ asking 1 1 0 0 (Some p1_0_200) ∷ []

-- Over two_deficits_tree: the first queue is empty, and the second isn't asked
abbrev pub drr_stops_early : List Visit
drr_stops_early = asking 0 0 1 0 None ∷ asking 0 0 0 0 None ∷ []

-- Over two_deficits_tree: the first queue is asked again though it gave a packet within its deficit
abbrev pub drr_goes_on : List Visit
drr_goes_on = asking 0 0 1 0 (Some p0_0_500) ∷ asking 0 0 1 0 None ∷ asking 0 0 0 0 (Some p0_0_500) ∷ []

-- Over head_below_tree: while a head is held above it, the PrioSched has a visit though it isn't asked
abbrev pub inner_unasked : List Visit
inner_unasked =
    asking 0 0 2 0 (Some p0_0_10) ∷ look 0 0 1 0 true (Some p0_0_10) false ∷ asking 0 0 0 0 None ∷
    asking 1 0 2 0 None ∷ look 1 0 1 0 false (Some p0_0_10) true ∷ asking 1 0 0 0 (Some p0_0_10) ∷ []

-- A DRRSched of quanta 500 and 1000 over packets of 500: the second queue gives two for each of the first.
abbrev pub own_quanta : List Visit
own_quanta =
    asking 0 0 1 0 (Some p0_0_500) ∷ asking 0 0 0 0 (Some p0_0_500) ∷
    look 1 0 1 0 true (Some p0_1_500) false ∷ asking 1 0 1 1 (Some p1_0_500) ∷ asking 1 0 0 0 (Some p1_0_500) ∷
    asking 2 0 1 1 (Some p1_1_500) ∷ asking 2 0 0 0 (Some p1_1_500) ∷
    look 3 0 1 1 true (Some p1_2) false ∷ look 3 0 1 0 false (Some p0_1_500) true ∷ asking 3 0 0 0 (Some p0_1_500) ∷
    asking 4 0 1 0 None ∷ look 4 0 1 1 false (Some p1_2) true ∷ asking 4 0 0 0 (Some p1_2) ∷
    asking 5 0 1 1 (Some p1_3) ∷ asking 5 0 0 0 (Some p1_3) ∷
    asking 6 0 1 1 None ∷ asking 6 0 1 0 None ∷ asking 6 0 0 0 None ∷ []

abbrev pub own_quanta_tree : Tree
own_quanta_tree = scheduler (drr (500 ∷ 1000 ∷ [])) (leaf 0 (leaf 1 end))

-- the first pulls of `own_quanta` as they would be if the first quantum held for both inputs
abbrev pub first_quantum_for_all : List Visit
first_quantum_for_all =
    asking 0 0 1 0 (Some p0_0_500) ∷ asking 0 0 0 0 (Some p0_0_500) ∷
    look 1 0 1 0 true (Some p0_1_500) false ∷ asking 1 0 1 1 (Some p1_0_500) ∷ asking 1 0 0 0 (Some p1_0_500) ∷
    look 2 0 1 1 true (Some p1_1_500) false ∷ look 2 0 1 0 false (Some p0_1_500) true ∷ asking 2 0 0 0 (Some p0_1_500) ∷ []

-- the first pulls of `own_quanta` as they would be if the quanta were exchanged
abbrev pub quanta_exchanged : List Visit
quanta_exchanged =
    asking 0 0 1 0 (Some p0_0_500) ∷ asking 0 0 0 0 (Some p0_0_500) ∷
    asking 1 0 1 0 (Some p0_1_500) ∷ asking 1 0 0 0 (Some p0_1_500) ∷ []

-- the first pulls of `own_quanta`, but the third begins at the first input and not where the second passed
abbrev pub begins_at_first : List Visit
begins_at_first =
    asking 0 0 1 0 (Some p0_0_500) ∷ asking 0 0 0 0 (Some p0_0_500) ∷
    look 1 0 1 0 true (Some p0_1_500) false ∷ asking 1 0 1 1 (Some p1_0_500) ∷ asking 1 0 0 0 (Some p1_0_500) ∷
    look 2 0 1 0 false (Some p0_1_500) false ∷ asking 2 0 1 1 (Some p1_1_500) ∷ asking 2 0 0 0 (Some p1_1_500) ∷ []

-- a DRRSched whose least quantum, one byte, is that of its second input
abbrev pub least_last_tree : Tree
least_last_tree = scheduler (drr (500 ∷ 1 ∷ [])) (leaf 0 (leaf 1 end))

-- a DRRSched whose least quantum, one byte, is that of its first input
abbrev pub least_first_tree : Tree
least_first_tree = scheduler (drr (1 ∷ 500 ∷ [])) (leaf 0 (leaf 1 end))
