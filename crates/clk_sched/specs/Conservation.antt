-- That a tree loses nothing, and makes nothing.
use Rattle.std.specs.Prelude.{◌≡◌, ℕ, ◌+◌, true, List, [], ◌∷◌, ◌++◌, length, Some, None, MatchOption, if◌then◌else◌, ◌==◌, false}
use Rattle.std.specs.Option.{option_map_or}
use Rattle.std.specs.List.{filter_map, AllByRecursion}
use Rattle.clk_packet.specs.Lists.{In, stands_in}
use Rattle.clk_packet.specs.declared.packet.Packet.{Packet}
use Rattle.clk_sched.specs.declared.visit.Visit.{Visit}
use Rattle.clk_sched.specs.Tree.{Row, Tree, root, leaves}
use Rattle.clk_sched.specs.Run.{IsRun}
use Rattle.clk_sched.specs.Results.{Traced, leaf_packets, traced_emitted, traced_heads, emitted, heads}

-- the packets that came from a queue
abbrev pub from_queue : ℕ → List Traced → List Packet
from_queue q traced = filter_map (λ (t : Traced). if option_map_or (λ other. other == q) t.1 false then Some t.0 else None) traced

-- What a queue gave is what was emitted of it, in order, and then what is held of it, the nearest to the device first.
abbrev pub IsConserved : Tree → List Visit → ℕ → Type 0
IsConserved tree log q =
    leaf_packets tree q log ≡ from_queue q (traced_emitted tree log) ++ from_queue q (traced_heads tree log)

-- Every run of a tree conserves the packets of each of its queues.
abbrev pub ConservesPackets : Tree → Type 0
ConservesPackets tree = (log : List Visit) → IsRun tree log → (q : ℕ) → stands_in q (leaves (root tree)) ≡ true → IsConserved tree log q

-- how many packets some queues gave in all
abbrev pub given_in_all : Tree → List ℕ → List Visit → ℕ
given_in_all tree [] log = 0
given_in_all tree (q ∷ queues) log = length (leaf_packets tree q log) + given_in_all tree queues log

-- In every run of a tree, as many packets are emitted or held as its queues gave in all.
abbrev pub ConservesCounts : Tree → Type 0
ConservesCounts tree = (log : List Visit) → IsRun tree log → given_in_all tree (leaves (root tree)) log ≡ length (emitted log) + length (heads tree log)

-- a packet came from a queue of a row: it is among those that the queue gave
abbrev pub CameFrom : Tree → List Visit → Row → Traced → Type 0
CameFrom tree log row t = MatchOption t.1 ⊥ (λ q. (stands_in q (leaves row) ≡ true) × In t.0 (leaf_packets tree q log))

-- In every run of a tree, each packet that is emitted or held came from one of its queues.
abbrev pub MakesNothing : Tree → Type 0
MakesNothing tree =
    (log : List Visit) → IsRun tree log
    → AllByRecursion (CameFrom tree log (root tree)) (traced_emitted tree log) × AllByRecursion (CameFrom tree log (root tree)) (traced_heads tree log)
