-- The rounds of the closing bound are enough for each quantum in a tree.
use Rattle.std.proofs.lemmas.Grind.{common_steps}
use Rattle.std.proofs.Common.{◌≡◌, ℕ, ◌+◌, ◌*◌, ◌-◌, ◌≤◌, List, [], ◌∷◌, ◌++◌, max, sym, ◌∙◌, subst, mul-add, add-mul, arith}
use Rattle.std.specs.List.{AllByRecursion}
use Rattle.std.proofs.Math.Nat.{lt-mul-div-succ}
use Rattle.clk_packet.specs.Scheduler.{Scheduler, drr}
use Rattle.clk_sched.specs.Tree.{Row, end, leaf, node, Tree, root, IsSound}
use Rattle.clk_sched.specs.Bound.{quanta_of, rounds_for, rounds}
use Rattle.clk_sched.specs.inside.Quanta.{quanta_below, most_rounds}
use Rattle.clk_sched.proofs.Lists.Members.{all-split, all-weaker}
use Rattle.clk_sched.proofs.Trees.TreeBound.{rounds-below, positive-row}
use Rattle.clk_sched.proofs.Closing.Rows.{AreEnough, EachIsEnough}

-- the rounds of the closing bound but one
abbrev pub rounds_less : Tree → ℕ
rounds_less tree = rounds tree - 1

-- the most rounds are no fewer than those to begin with, and than those for each quantum
most-first : (most : ℕ) (quanta : List ℕ) → most ≤ most_rounds most quanta
most-first most [] = omega arith
most-first most (n ∷ quanta) = let rest = most-first (max most (rounds_for n)) quanta in omega (arith, rest)

most-each : (most : ℕ) (quanta : List ℕ) → AllByRecursion (λ n. rounds_for n ≤ most_rounds most quanta) quanta
most-each most [] = tt
most-each most (n ∷ quanta) = (let rest = most-first (max most (rounds_for n)) quanta in omega (arith, rest), most-each (max most (rounds_for n)) quanta)

pub rounds-more : (tree : Tree) → rounds tree ≡ rounds_less tree + 1
rounds-more tree = let some = subst (λ n. 1 ≤ n) (sym (rounds-below tree)) (most-first 1 (quanta_below (root tree))) in omega (arith, some)

-- a quantum with so many rounds and one
abbrev IsCovered : ℕ → ℕ → Type 0
IsCovered k n = (1 ≤ n) × (rounds_for n ≤ k + 1)

enough : (k n : ℕ) → IsCovered k n → 65535 ≤ n * k
enough k n h = grind (arith, common_steps, lt-mul-div-succ, mul-add, add-mul)

class-enough : (class : Scheduler) (k : ℕ) → AllByRecursion (IsCovered k) (quanta_of class) → AreEnough k class
class-enough (drr quanta) k h = all-weaker (IsCovered k) (λ n. 65535 ≤ n * k) quanta (enough k) h
class-enough class k h = tt

row-enough : (row : Row) (k : ℕ) → AllByRecursion (IsCovered k) (quanta_below row) → EachIsEnough k row
row-enough end k h = tt
row-enough (leaf q row) k h = row-enough row k h
row-enough (node class inputs row) k h =
    let own = all-split (IsCovered k) (quanta_of class) (quanta_below inputs ++ quanta_below row) h in
    let below = all-split (IsCovered k) (quanta_below inputs) (quanta_below row) own.1 in
    (class-enough class k own.0, row-enough inputs k below.0, row-enough row k below.1)

pub each-enough : (tree : Tree) → IsSound (root tree) → EachIsEnough (rounds_less tree) (root tree)
each-enough tree sound = row-enough (root tree) (rounds_less tree) (both (quanta_below (root tree)) (positive-row (root tree) sound) covered)
  where
    covered : AllByRecursion (λ n. rounds_for n ≤ rounds_less tree + 1) (quanta_below (root tree))
    covered = subst (λ r. AllByRecursion (λ n. rounds_for n ≤ r) (quanta_below (root tree))) (sym (rounds-below tree) ∙ rounds-more tree) (most-each 1 (quanta_below (root tree)))

    both : (quanta : List ℕ) → AllByRecursion (λ n. 1 ≤ n) quanta → AllByRecursion (λ n. rounds_for n ≤ rounds_less tree + 1) quanta → AllByRecursion (IsCovered (rounds_less tree)) quanta
    both [] h k = tt
    both (n ∷ quanta) h k = ((h.0, k.0), both quanta h.1 k.1)
