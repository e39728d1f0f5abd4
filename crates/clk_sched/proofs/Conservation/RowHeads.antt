-- The heads held in a tree, by recursion over its rows.
use Rattle.std.proofs.Common.{◌≡◌, ℕ, suc, ◌+◌, List, [], ◌++◌, refl, ap, ◌∙◌}
use Rattle.std.specs.List.{flat_map}
use Rattle.std.proofs.lemmas.List.Concat.{flat_map-append}
use Rattle.clk_sched.specs.declared.visit.Visit.{Visit}
use Rattle.clk_sched.specs.Tree.{Row, end, leaf, node, Tree, PlacedScheduler, schedulers_in, root, nodes, width}
use Rattle.clk_sched.specs.Laws.{manner}
use Rattle.clk_sched.specs.Results.{Traced, own_heads, traced_heads}

-- the heads held in a row whose schedulers are numbered from `next` on, with their origins, by node and then by input
abbrev pub row_heads : List Visit → ℕ → Row → List Traced
row_heads log next end = []
row_heads log next (leaf q row) = row_heads log next row
row_heads log next (node class inputs row) =
    own_heads log next inputs (manner class (width inputs)) ++ (row_heads log (suc next) inputs ++ row_heads log (suc (next + nodes inputs)) row)

by-rows : (log : List Visit) (above first next : ℕ) (row : Row)
    → flat_map (λ (n : PlacedScheduler). own_heads log n.number n.inputs (manner n.class (width n.inputs))) (schedulers_in above first next row) ≡ row_heads log next row
by-rows log above first next end = refl
by-rows log above first next (leaf q row) = by-rows log above (suc first) next row
by-rows log above first next (node class inputs row) =
    ap (λ l. own_heads log next inputs (manner class (width inputs)) ++ l)
    (flat_map-append (λ (n : PlacedScheduler). own_heads log n.number n.inputs (manner n.class (width n.inputs))) (schedulers_in next 0 (suc next) inputs) (schedulers_in above (suc first) (suc (next + nodes inputs)) row)
    ∙ ap (λ l. l ++ flat_map (λ (n : PlacedScheduler). own_heads log n.number n.inputs (manner n.class (width n.inputs))) (schedulers_in above (suc first) (suc (next + nodes inputs)) row)) (by-rows log next 0 (suc next) inputs)
    ∙ ap (λ l. row_heads log (suc next) inputs ++ l) (by-rows log above (suc first) (suc (next + nodes inputs)) row))

pub tree-heads : (tree : Tree) (log : List Visit) → traced_heads tree log ≡ row_heads log 1 (root tree)
tree-heads tree log = by-rows log 0 0 1 (root tree)
