-- The quanta of a tree, and the bound of its closing.
use Rattle.std.proofs.Common.{◌≡◌, ℕ, suc, ◌+◌, ◌*◌, ◌<◌, ◌≤◌, ◌^◌, List, [], ◌∷◌, ◌++◌, max, refl, sym, ap, ap₂, ◌∙◌, subst, arith, rules}
use Rattle.std.specs.List.{AllByRecursion, flat_map}
use Rattle.std.proofs.Math.Nat.{mul-le-mul}
use Rattle.clk_packet.specs.declared.limits.TheConstants.{MAX_QUANTUM, MAX_LENGTH, MAX_LEVELS}
use Rattle.clk_sched.specs.declared.limits.TheConstants.{MAX_LEFT}
use Rattle.clk_packet.specs.Scheduler.{Scheduler, HasArguments, drr}
use Rattle.clk_sched.specs.Tree.{Row, end, leaf, node, Tree, queue, scheduler, PlacedScheduler, schedulers_in, root, nodes, width, IsWellFormed, IsSound}
use Rattle.clk_sched.specs.Built.{levels}
use Rattle.clk_sched.specs.Bound.{quanta_of, rounds_for, rounds, closing_bound}
use Rattle.clk_sched.specs.inside.Quanta.{quanta_below, quanta_in, most_rounds}
use Rattle.std.proofs.lemmas.List.Concat.{flat_map-append}
use Rattle.clk_sched.proofs.Lists.Members.{all-append, all-weaker}
use Rattle.clk_sched.proofs.Trees.TreeLemmas.{sound-formed}

-- the quanta of the schedulers that are listed in a row
quanta-listed : (r : Row) (above first next : ℕ) → flat_map (λ (n : PlacedScheduler). quanta_of n.class) (schedulers_in above first next r) ≡ quanta_below r
quanta-listed end above first next = refl
quanta-listed (leaf q r) above first next = quanta-listed r above (suc first) next
quanta-listed (node class inputs r) above first next =
    ap (λ l. quanta_of class ++ l)
    (flat_map-append (λ (n : PlacedScheduler). quanta_of n.class) (schedulers_in next 0 (suc next) inputs) (schedulers_in above (suc first) (suc (next + nodes inputs)) r)
    ∙ ap₂ (λ these those. these ++ those) (quanta-listed inputs next 0 (suc next)) (quanta-listed r above (suc first) (suc (next + nodes inputs))))

-- the rounds of a tree, row by row
pub rounds-below : (tree : Tree) → rounds tree ≡ most_rounds 1 (quanta_below (root tree))
rounds-below tree = ap (most_rounds 1) (quanta-listed (root tree) 0 0 1)

pub rounds-in : (tree : Tree) → rounds tree ≡ most_rounds 1 (quanta_in tree)
rounds-in tree = rounds-below tree ∙ by_tree tree
  where
    by_tree : (t : Tree) → most_rounds 1 (quanta_below (root t)) ≡ most_rounds 1 (quanta_in t)
    by_tree (queue q) = refl
    by_tree (scheduler class inputs) = search rules

-- a quantum that can be divided by
abbrev pub IsQuantum : ℕ → Type 0
IsQuantum n = (1 ≤ n) × (n ≤ MAX_QUANTUM)

pub class-positive : (class : Scheduler) (inputs : ℕ) → HasArguments class inputs → AllByRecursion (λ n. 1 ≤ n) (quanta_of class)
class-positive (drr quanta) inputs h = all-weaker IsQuantum (λ n. 1 ≤ n) quanta (λ n k. k.0) h.1
class-positive class inputs h = tt

pub positive-row : (r : Row) → IsSound r → AllByRecursion (λ n. 1 ≤ n) (quanta_below r)
positive-row end h = tt
positive-row (leaf q r) h = positive-row r h
positive-row (node class inputs r) h =
    all-append (λ n. 1 ≤ n) (quanta_of class) (quanta_below inputs ++ quanta_below r) (class-positive class (width inputs) h.1)
    (all-append (λ n. 1 ≤ n) (quanta_below inputs) (quanta_below r) (positive-row inputs h.2) (positive-row r h.3))

-- the closing's bound is a number of pulls for each packet
pub bound-each : (tree : Tree) (left high many : ℕ) → high ≡ levels tree → many ≡ rounds tree → closing_bound tree left ≡ left * ((high + 1) * many)
bound-each tree left high many e f = search rules

-- no quantum needs more rounds than the greatest length, and one
rounds-for-few : (quantum : ℕ) → 1 ≤ quantum → rounds_for quantum ≤ MAX_LENGTH + 1
rounds-for-few quantum some = search rules

most-few : (most : ℕ) (quanta : List ℕ) → most ≤ MAX_LENGTH + 1 → AllByRecursion (λ n. 1 ≤ n) quanta → most_rounds most quanta ≤ MAX_LENGTH + 1
most-few most [] few some = few
most-few most (n ∷ quanta) few some = most-few (max most (rounds_for n)) quanta (let here = rounds-for-few n some.0 in omega (arith, few, here)) some.1

pub rounds-few : (tree : Tree) → IsWellFormed (root tree) → rounds tree ≤ MAX_LENGTH + 1
rounds-few tree h = subst (λ n. n ≤ MAX_LENGTH + 1) (sym (rounds-below tree)) (most-few 1 (quanta_below (root tree)) (omega arith) (positive-row (root tree) (sound-formed (root tree) h)))

-- the closing's bound where no more packets are left than a drain is given
low-product : (left high many : ℕ) → left ≤ MAX_LEFT → high ≤ MAX_LEVELS → many ≤ MAX_LENGTH + 1 → left * ((high + 1) * many) < 2 ^ 42
low-product left high many few low short = search (rules, mul-le-mul)

pub bound-low : (tree : Tree) → IsWellFormed (root tree) → levels tree ≤ MAX_LEVELS → (left : ℕ) → left ≤ MAX_LEFT → closing_bound tree left < 2 ^ 42
bound-low tree formed low left few = subst (λ n. n < 2 ^ 42) (sym (bound-each tree left (levels tree) (rounds tree) refl refl)) (low-product left (levels tree) (rounds tree) few low (rounds-few tree formed))
