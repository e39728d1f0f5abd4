-- What the schedulers of a row do, by recursion over the row: only pulls in which the node above is pulled count.
use Rattle.std.specs.Prelude.{◌≡◌, ℕ, ◌+◌, true, List, map, suc, ⊤}
use Rattle.std.specs.List.{AllByRecursion, list_any}
use Rattle.clk_sched.specs.declared.visit.Visit.{Visit}
use Rattle.clk_sched.specs.Tree.{Row, end, leaf, node, nodes, width}
use Rattle.clk_sched.specs.Log.{visits_of, turn, asks, pulls_below}
use Rattle.clk_sched.specs.Laws.{AllowsTurn, Obeys}
use Rattle.clk_sched.specs.Run.{GetsResult}

-- Each scheduler of a row obeys the law of its class, and what the node above got from it is its result. The row's inputs are those of
-- node `above` from `first` on, its schedulers are numbered from `next` on, and `pulled` are the pulls of `above`.
abbrev pub EachObeys : ℕ → List (List Visit) → ℕ → ℕ → Row → Type 0
EachObeys above pulled first next end = ⊤
EachObeys above pulled first next (leaf q row) = EachObeys above pulled (suc first) next row
EachObeys above pulled first next (node class inputs row) =
    Obeys class (width inputs) (map (turn next) (pulls_below above first pulled))
    × AllByRecursion (GetsResult above first next) pulled
    × EachObeys next (pulls_below above first pulled) 0 (suc next) inputs
    × EachObeys above pulled (suc first) (suc (next + nodes inputs)) row

-- If a scheduler of a row is pulled, its turn in this pull is allowed after its earlier turns, and what the node above got from it is its
-- result. Earlier pulls have the latest first.
abbrev pub EachAllows : ℕ → ℕ → ℕ → Row → List (List Visit) → List Visit → Type 0
EachAllows above first next end earlier pull = ⊤
EachAllows above first next (leaf q row) earlier pull = EachAllows above (suc first) next row earlier pull
EachAllows above first next (node class inputs row) earlier pull =
    (list_any (asks first) (visits_of above pull) ≡ true
    → AllowsTurn class (width inputs) (map (turn next) (pulls_below above first earlier)) (turn next pull)
    × EachAllows next 0 (suc next) inputs (pulls_below above first earlier) pull)
    × GetsResult above first next pull
    × EachAllows above (suc first) (suc (next + nodes inputs)) row earlier pull
