-- What a log tells: packets that queues gave, packets emitted, heads held, and which queue each packet came from.
use Rattle.std.specs.Prelude.{Bool, ℕ, zero, suc, ◌+◌, nat_le, List, [], ◌∷◌, map, filter, reverse, Option, Some, None, option_and_then, if◌then◌else◌, ◌==◌, false}
use Rattle.std.specs.Option.{option_map_or}
use Rattle.std.specs.List.{filter_map, flat_map, range_with_len}
use Rattle.clk_packet.specs.declared.packet.Packet.{Packet}
use Rattle.clk_sched.specs.declared.visit.Visit.{Visit}
use Rattle.clk_sched.specs.Tree.{Row, end, leaf, node, Tree, PlacedScheduler, schedulers_of, root, width, nodes}
use Rattle.clk_sched.specs.Log.{visits_of, in_pull, asks}
use Rattle.clk_sched.specs.Answers.{tree_queue}
use Rattle.clk_sched.specs.Heads.{head_at}
use Rattle.clk_sched.specs.Laws.{Manner, in_order, with_heads, manner}

-- the packets emitted at the device, in order
abbrev pub emitted : List Visit → List Packet
emitted log = filter_map (λ (v : Visit). if v.passed then v.got else None) (visits_of 0 log)

-- whether a visit asked this queue
abbrev pub asks_queue : Tree → ℕ → Visit → Bool
asks_queue tree q v = option_map_or (λ other. other == q) (tree_queue tree v) false

-- the packets that a queue gave, in order
abbrev pub leaf_packets : Tree → ℕ → List Visit → List Packet
leaf_packets tree q log = filter_map (λ (v : Visit). if asks_queue tree q v then v.got else None) log

-- the visits of pull k and of those before it
abbrev pub up_to : ℕ → List Visit → List Visit
up_to k visits = filter (λ (v : Visit). nat_le v.pull k) visits

-- the input from which a node passed a packet in a pull, by its visits there; none if it passed none
abbrev pub passed_input : List Visit → Option ℕ
passed_input [] = None
passed_input (v ∷ visits) = if v.passed then Some v.input else passed_input visits

-- the latest pull in which a node asked at an input, by its visits, the latest first; none if it never asked there
abbrev pub asked_pull : ℕ → List Visit → Option ℕ
asked_pull input [] = None
asked_pull input (v ∷ earlier) = if asks input v then Some v.pull else asked_pull input earlier

-- The queue that gave what a node got when it last asked at an input, if a queue did. What the node holds of that input, or passes from
-- there, it got then.
abbrev pub latest_origin : (ℕ → Option ℕ) → ℕ → List Visit → Option ℕ
latest_origin origin input latest_first = option_and_then origin (asked_pull input latest_first)

-- The queue that gave the packet that a node passed in pull k; none if it passed none.
abbrev pub passed_origin : (ℕ → ℕ → Option ℕ) → ℕ → List Visit → Option ℕ
passed_origin origin k visits =
    option_and_then (λ input. latest_origin (origin input) input (up_to k (reverse visits))) (passed_input (in_pull k visits))

-- Where what an input of a row gave in pull k came from: the queue there, even if it gave none, or the origin of what the scheduler there
-- passed. None if nothing stands there, or the scheduler passed nothing. The row's schedulers are numbered from `next` on.
abbrev pub origin_in : List Visit → ℕ → Row → ℕ → ℕ → Option ℕ
origin_in log next end input k = None
origin_in log next (leaf q row) zero k = Some q
origin_in log next (leaf q row) (suc input) k = origin_in log next row input k
origin_in log next (node class inputs row) zero k = passed_origin (λ i n. origin_in log (suc next) inputs i n) k (visits_of next log)
origin_in log next (node class inputs row) (suc input) k = origin_in log (suc (next + nodes inputs)) row input k

-- a packet with the queue that it came from
abbrev pub Traced : Type 0
Traced = Packet × Option ℕ

-- a packet with its origin, as a list, which is empty if there is no packet
abbrev pub traced : Option Packet → Option ℕ → List Traced
traced None origin = []
traced (Some p) origin = (p, origin) ∷ []

-- the packets emitted, with their origins
abbrev pub traced_emitted : Tree → List Visit → List Traced
traced_emitted tree log = flat_map (λ (v : Visit). if v.passed then traced v.got (origin_in log 1 (root tree) 0 v.pull) else []) (visits_of 0 log)

-- the head held at an input of node x at the end of a log, with its origin
abbrev pub held_at : List Visit → ℕ → Row → ℕ → List Traced
held_at log x inputs input =
    traced (head_at input (reverse (visits_of x log))) (latest_origin (origin_in log (suc x) inputs input) input (reverse (visits_of x log)))

-- the heads held by node x, by input: only a scheduler with heads has any
abbrev pub own_heads : List Visit → ℕ → Row → Manner → List Traced
own_heads log x inputs (in_order order) = []
own_heads log x inputs (with_heads turn_of covers) = flat_map (held_at log x inputs) (range_with_len 0 (width inputs))

-- the heads held in a tree, with their origins, by node and then by input
abbrev pub traced_heads : Tree → List Visit → List Traced
traced_heads tree log = flat_map (λ (n : PlacedScheduler). own_heads log n.number n.inputs (manner n.class (width n.inputs))) (schedulers_of tree)

-- the heads held, by node and then by input
abbrev pub heads : Tree → List Visit → List Packet
heads tree log = map (λ (t : Traced). t.0) (traced_heads tree log)
