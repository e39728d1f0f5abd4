-- A plan has one tree for each device.
use Rattle.std.proofs.Common.{◌≡◌, ℕ, List, [], ◌∷◌, length, suc, Option, Some, slice_get, refl, sym, ap₂, ◌∙◌, arith, rules, get_or}
use Rattle.clk_packet.specs.Scheduler.{Scheduler}
use Rattle.clk_sched.specs.Tree.{Row, end, leaf, node, Tree, root}
use Rattle.clk_tree.specs.Plan.{Planned}
use Rattle.clk_tree.specs.PlanTree.{IsNode, IsRowOf, IsTreeOf, device_sources}
use Rattle.clk_tree.specs.inside.PlanTree.{number_if, sources_at}
use Rattle.clk_tree.specs.Shares.{AreTreesOf}

-- a queue is no scheduler
not-both : (n q : ℕ) (over : Scheduler) (o : Option Planned) → number_if n o ≡ Some q → IsNode over o → ⊥
not-both n q over o is over_inputs = search rules

-- an element is a scheduler of one class
one-class : (a b : Scheduler) (o : Option Planned) → IsNode a o → IsNode b o → a ≡ b
one-class a b o x y = search rules

-- at the same inputs stands the same row
one-row : (plan : List Planned) (sources : List ℕ) (a b : Row) → IsRowOf plan sources a → IsRowOf plan sources b → a ≡ b
one-row plan [] end end x y = refl
one-row plan [] end (leaf q b) x y = absurd y
one-row plan [] end (node class inputs b) x y = absurd y
one-row plan [] (leaf p a) b x y = absurd x
one-row plan [] (node class inputs a) b x y = absurd x
one-row plan (s ∷ more) end b x y = absurd x
one-row plan (s ∷ more) (leaf p a) end x y = absurd y
one-row plan (s ∷ more) (leaf p a) (leaf q b) x y = search (rules, not-both, one-class, (one-row plan more a b x.1 y.1))
one-row plan (s ∷ more) (leaf p a) (node class inputs b) x y = absurd (not-both _ p class (slice_get plan s) x.0 y.0)
one-row plan (s ∷ more) (node class inputs a) end x y = absurd y
one-row plan (s ∷ more) (node class inputs a) (leaf q b) x y = absurd (not-both _ q class (slice_get plan s) y.0 x.0)
one-row plan (s ∷ more) (node class inputs a) (node other lower b) x y =
    let same : class ≡ other = one-class class other (slice_get plan s) x.0 y.0 in
    let below : inputs ≡ lower = one-row plan (sources_at (slice_get plan s)) inputs lower x.1 y.1 in
    let after : a ≡ b = one-row plan more a b x.2 y.2 in
    cc

one-root : (t u : Tree) → root t ≡ root u → t ≡ u
one-root t u e = search rules

-- a device of a plan has one tree
pub one-tree : (plan : List Planned) (d : ℕ) (t u : Tree) → IsTreeOf plan d t → IsTreeOf plan d u → t ≡ u
one-tree plan d t u x y = one-root t u (one-row plan (get_or (device_sources plan) d []) (root t) (root u) x y)

-- lists that agree at each place
same-lists : {X : Type 0} (xs ys : List X) → length xs ≡ length ys → ((i : ℕ) (x y : X) → slice_get xs i ≡ Some x → slice_get ys i ≡ Some y → x ≡ y) → xs ≡ ys
same-lists [] [] e each = refl
same-lists [] (y ∷ ys) e each = absurd (omega (arith, e))
same-lists (x ∷ xs) [] e each = absurd (omega (arith, e))
same-lists (x ∷ xs) (y ∷ ys) e each = ap₂ (λ z zs. z ∷ zs) (each 0 x y refl refl) (same-lists xs ys (omega (arith, e)) (λ i a b at other. each (suc i) a b at other))

-- a plan has one list of trees
pub one-trees : (plan : List Planned) (one other : List Tree) → AreTreesOf plan one → AreTreesOf plan other → one ≡ other
one-trees plan one other a b = same-lists one other (a.count ∙ sym b.count) (λ d t u at there. one-tree plan d t u (a.each d t at) (b.each d u there))
