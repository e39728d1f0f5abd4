-- The quanta of a tree, row by row, as its bound goes through them.
use Rattle.std.specs.Prelude.{ℕ, List, [], ◌++◌, map, fold, max}
use Rattle.clk_sched.specs.Tree.{Row, end, leaf, node, Tree, queue, scheduler}
use Rattle.clk_sched.specs.Bound.{quanta_of, rounds_for}

-- the quanta in a row, by scheduler
abbrev pub quanta_below : Row → List ℕ
quanta_below end = []
quanta_below (leaf q row) = quanta_below row
quanta_below (node class inputs row) = quanta_of class ++ (quanta_below inputs ++ quanta_below row)

-- the quanta of a tree
abbrev pub quanta_in : Tree → List ℕ
quanta_in (queue q) = []
quanta_in (scheduler class inputs) = quanta_of class ++ quanta_below inputs

-- the most rounds for these quanta, or `most` if that is more
abbrev pub most_rounds : ℕ → List ℕ → ℕ
most_rounds most quanta = fold max most (map rounds_for quanta)
