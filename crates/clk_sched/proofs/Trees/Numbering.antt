-- Which queue stands at which input of which node.
use Rattle.std.proofs.Common.{◌≡◌, ◌≢◌, ℕ, ◌+◌, ◌<◌, ◌≤◌, ◌==◌, ◌&&◌, suc, Bool, false, Option, Some, None, refl, sym, ◌∙◌, arith, rules}
use Rattle.std.specs.Option.{option_or}
use Rattle.clk_packet.specs.Scheduler.{Scheduler}
use Rattle.clk_sched.specs.Tree.{Row, end, leaf, node, Tree, root, nodes, queue_in, queue_at}
use Rattle.clk_sched.proofs.Lists.Numbers.{equal, differs}

and_false : (b : Bool) → (b && false) ≡ false
and_false b = search rules

pub or_none : (o : Option ℕ) → option_or o None ≡ o
or_none o = search rules

-- no queue of a row stands at a node numbered before those of the row
pub queue_in-before : (above first next : ℕ) (row : Row) (x i : ℕ) → x < next → x ≢ above → queue_in above first next row x i ≡ None
queue_in-before above first next end x i l d = refl
queue_in-before above first next (leaf q row) x i l d = rw (differs above x (λ e. d (sym e))) (queue_in-before above (suc first) next row x i l d)
queue_in-before above first next (node class inputs row) x i l d =
    rw (queue_in-before next 0 (suc next) inputs x i (omega arith) (λ e. omega (arith, e)), queue_in-before above (suc first) (suc (next + nodes inputs)) row x i (omega arith) d) refl

-- nor at one numbered after them
pub queue_in-after : (above first next : ℕ) (row : Row) (x i : ℕ) → above < next → next + nodes row ≤ x → queue_in above first next row x i ≡ None
queue_in-after above first next end x i o l = refl
queue_in-after above first next (leaf q row) x i o l = rw (differs above x (λ e. omega (arith, e))) (queue_in-after above (suc first) next row x i o l)
queue_in-after above first next (node class inputs row) x i o l =
    rw (queue_in-after next 0 (suc next) inputs x i (omega arith) (omega arith), queue_in-after above (suc first) (suc (next + nodes inputs)) row x i (omega arith) (omega arith)) refl

-- nor at an input before those of the row
pub queue_in-earlier : (above first next : ℕ) (row : Row) (i : ℕ) → above < next → i < first → queue_in above first next row above i ≡ None
queue_in-earlier above first next end i o l = refl
queue_in-earlier above first next (leaf q row) i o l = rw (differs first i (λ e. omega (arith, e)), and_false (above == above)) (queue_in-earlier above (suc first) next row i o (omega arith))
queue_in-earlier above first next (node class inputs row) i o l = search (rules, queue_in-before, (queue_in-earlier above (suc first) (suc (next + nodes inputs)) row i (omega arith) (omega arith)))

-- What a tree says of the queues at the inputs of node `above` from `first` on, and at those of the nodes of a row, is what
-- the row says.
pub record StandsAt (tree : Tree) (above first next : ℕ) (row : Row) : Type 0 where
  pub ordered : above < next
  pub own : (i : ℕ) → first ≤ i → queue_at tree above i ≡ queue_in above first next row above i
  pub below : (x i : ℕ) → next ≤ x → x < next + nodes row → queue_at tree x i ≡ queue_in above first next row x i

pub stands-root : (tree : Tree) → StandsAt tree 0 0 1 (root tree)
stands-root tree = record { ordered = omega arith; own = λ i l. refl; below = λ x i l h. refl }

pub stands-after_leaf : (tree : Tree) (above first next q : ℕ) (row : Row) → StandsAt tree above first next (leaf q row) → StandsAt tree above (suc first) next row
stands-after_leaf tree above first next q row s = search rules

pub stands-after_node : (tree : Tree) (above first next : ℕ) (class : Scheduler) (inputs row : Row) → StandsAt tree above first next (node class inputs row)
    → StandsAt tree above (suc first) (suc (next + nodes inputs)) row
stands-after_node tree above first next class inputs row s = search (rules, queue_in-before, queue_in-after)

pub stands-inputs : (tree : Tree) (above first next : ℕ) (class : Scheduler) (inputs row : Row) → StandsAt tree above first next (node class inputs row)
    → StandsAt tree next 0 (suc next) inputs
stands-inputs tree above first next class inputs row s = search (rules, or_none, queue_in-before)

pub at-leaf : (tree : Tree) (above first next q : ℕ) (row : Row) → StandsAt tree above first next (leaf q row) → queue_at tree above first ≡ Some q
at-leaf tree above first next q row s = s.own first (omega arith) ∙ rw (equal above above refl, equal first first refl) refl
