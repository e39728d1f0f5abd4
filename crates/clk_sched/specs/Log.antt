-- The shape of a log of visits (this project's own choice).
use Rattle.std.specs.Prelude.{◌≡◌, ℕ, ◌+◌, ◌≤◌, Bool, ◌==◌, ◌&&◌, List, [], ◌∷◌, ◌++◌, length, map, filter, suc, ⊤, true, is_some, Option, None, if◌then◌else◌, max}
use Rattle.std.specs.List.{flat_map, range_with_len, AllByRecursion, list_any}
use Rattle.clk_packet.specs.declared.packet.Packet.{Packet}
use Rattle.clk_sched.specs.declared.visit.Visit.{Visit}
use Rattle.clk_sched.specs.Turns.{Turn}
use Rattle.clk_sched.specs.Tree.{Row, end, leaf, node, Tree, root, nodes}

-- the visits of one node
abbrev pub visits_of : ℕ → List Visit → List Visit
visits_of x visits = filter (λ (v : Visit). v.node == x) visits

-- the visits of one pull
abbrev pub in_pull : ℕ → List Visit → List Visit
in_pull k log = filter (λ (v : Visit). v.pull == k) log

-- The log, pull by pull: the visits numbered k are those of pull k, and there are as many pulls as visits of the device.
abbrev pub pulls : List Visit → List (List Visit)
pulls log = map (λ k. in_pull k log) (range_with_len 0 (length (visits_of 0 log)))

-- The block of what stands at an input, in a row whose inputs are numbered from `first` on and whose schedulers are numbered from `next` on.
-- It has a scheduler's visits in this pull, each behind the block of what it asked; a queue has none.
abbrev pub block_at : List Visit → ℕ → ℕ → Row → ℕ → List Visit
block_at pull first next end input = []
block_at pull first next (leaf q row) input = if first == input then [] else block_at pull (suc first) next row input
block_at pull first next (node class inputs row) input =
    if first == input
    then flat_map (λ (v : Visit). (if v.fresh then block_at pull 0 (suc next) inputs v.input else []) ++ v ∷ []) (visits_of next pull)
    else block_at pull (suc first) (suc (next + nodes inputs)) row input

-- the block of the device: the visits of the whole pull, in their order
abbrev pub block : Tree → List Visit → List Visit
block tree pull =
    flat_map (λ (v : Visit). (if v.fresh then block_at pull 0 1 (root tree) v.input else []) ++ v ∷ []) (visits_of 0 pull)

-- the counted moment of a pull: that of its first visit
abbrev pub moment_of : List Visit → ℕ
moment_of [] = 0
moment_of (v ∷ visits) = v.moment

-- all visits of a pull have the same moment
abbrev pub HasOneMoment : List Visit → Type 0
HasOneMoment pull = AllByRecursion (λ (v : Visit). v.moment ≡ moment_of pull) pull

-- no number is below the one before it, and the first is not below `least`
abbrev pub NeverFalls : ℕ → List ℕ → Type 0
NeverFalls least [] = ⊤
NeverFalls least (n ∷ ns) = (least ≤ n) × NeverFalls n ns

-- The counted moments of pulls, by the moments that were handed in: each is the greater of its own and the one before it. `before` is 0 for
-- the first.
abbrev pub counted : ℕ → List ℕ → List ℕ
counted before [] = []
counted before (moment ∷ moments) = max before moment ∷ counted (max before moment) moments

-- The shape of a log: it is the blocks of its pulls, in order; each pull has one moment; and moments never fall.
pub record HasLogShape (tree : Tree) (log : List Visit) : Type 0 where
  pub blocks : log ≡ flat_map (block tree) (pulls log)
  pub one_moment : AllByRecursion HasOneMoment (pulls log)
  pub moments : NeverFalls 0 (map moment_of (pulls log))

-- what a node did in one pull
abbrev pub turn : ℕ → List Visit → Turn
turn x pull = record { moment = moment_of pull; visits = visits_of x pull }

-- whether a visit asked what stands at this input
abbrev pub asks : ℕ → Visit → Bool
asks input v = v.fresh && (v.input == input)

-- Of the pulls of node x, those in which the child at an input is pulled: x has a fresh visit there.
abbrev pub pulls_below : ℕ → ℕ → List (List Visit) → List (List Visit)
pulls_below x input pulled = filter (λ pull. list_any (asks input) (visits_of x pull)) pulled

-- what a node returns in a pull, by its visits there: the packet of the one that passed, or none
abbrev pub result_of : List Visit → Option Packet
result_of [] = None
result_of (v ∷ visits) = if v.passed then v.got else result_of visits

-- a visit that asked what stands at the input; its packet, if it got one, is the node's result
abbrev pub asking : ℕ → ℕ → ℕ → ℕ → Option Packet → Visit
asking k t x i o = record { pull = k; moment = t; got = o; node = x; input = i; fresh = true; passed = is_some o }
