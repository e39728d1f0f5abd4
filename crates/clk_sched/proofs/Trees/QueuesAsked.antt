-- The queues that visits asked, as the tree has them and as a table has them.
use Rattle.std.proofs.Common.{◌≡◌, ◌⊎◌, ℕ, zero, suc, ◌+◌, ◌<◌, ◌≤◌, ◌==◌, List, [], ◌∷◌, slice_get, Option, refl, eq-or-lt_of_le, arith, rules}
use Rattle.std.specs.List.{AllByRecursion}
use Rattle.std.proofs.lemmas.Bool.{cases_lt}
use Rattle.std.proofs.Math.Bool.{and-false}
use Rattle.clk_packet.specs.declared.packet.Packet.{Packet}
use Rattle.clk_sched.specs.declared.visit.Visit.{Visit}
use Rattle.clk_sched.specs.declared.session.inputs.Inputs.{Inputs}
use Rattle.clk_packet.specs.Scheduler.{Scheduler}
use Rattle.clk_sched.specs.Tree.{Row, end, leaf, node, Tree, root, nodes, queue_in, queue_at}
use Rattle.clk_sched.specs.Answers.{at_queue, Answers, tree_queue}
use Rattle.clk_sched.specs.inside.Places.{inputs_of, HasInputs, EachHasInputs, StandsIn, input_at, queue_of, queue_asked}
use Rattle.clk_sched.specs.inside.Pulling.{Now, History, IsBlock}
use Rattle.clk_sched.proofs.Lists.Numbers.{equal, differs}
use Rattle.clk_sched.proofs.Lists.Members.{all-weaker}
use Rattle.clk_sched.proofs.Trees.Numbering.{queue_in-before, queue_in-earlier, StandsAt, stands-root, stands-after_leaf, stands-after_node, stands-inputs}
use Rattle.clk_sched.proofs.Trees.Below.{IsVisitBelow, asked-below}

-- the queue at an input of a node is the one at that place of its row
row-queue : (above first next : ℕ) (row : Row) (i j : ℕ) → above < next → j ≡ first + i → queue_of (slice_get (inputs_of next row) i) ≡ queue_in above first next row above j
row-queue above first next end i j o e = refl
row-queue above first next (leaf q row) zero j o e = rw (equal above above refl, equal first j (omega (arith, e))) refl
row-queue above first next (leaf q row) (suc i) j o e = rw (differs first j (λ d. omega (arith, e, d)), and-false (above == above)) (row-queue above (suc first) next row i j o (omega (arith, e)))
row-queue above first next (node class inputs row) zero j o e = search (rules, queue_in-before, queue_in-earlier)
row-queue above first next (node class inputs row) (suc i) j o e = search (rules, queue_in-before, (row-queue above (suc first) (suc (next + nodes inputs)) row i j (omega arith) (omega (arith, e))))

-- the queue at an input of a node whose inputs in the table are those of a row
table-queue : (table : List Inputs) (x : ℕ) (row : Row) (i : ℕ) → HasInputs table x row → queue_of (input_at table x i) ≡ queue_in x 0 (suc x) row x i
table-queue table x row i h = search (rules, row-queue)

-- the table and the tree have the same queues at the inputs of the nodes of a row
row-queues : (tree : Tree) (table : List Inputs) (above first next : ℕ) (row : Row) → StandsAt tree above first next row → EachHasInputs table next row → (x i : ℕ) → next ≤ x → x < next + nodes row
    → queue_of (input_at table x i) ≡ queue_at tree x i
row-queues tree table above first next end s h x i l m = absurd (omega arith)
row-queues tree table above first next (leaf q row) s h x i l m = row-queues tree table above (suc first) next row (stands-after_leaf tree above first next q row s) h x i l m
row-queues tree table above first next (node class inputs row) s h x i l m =
    by_place (eq-or-lt_of_le l) (cases_lt x (suc (next + nodes inputs))) (λ k n. row-queues tree table next 0 (suc next) inputs within h.1 x i k n)
    (λ n. row-queues tree table above (suc first) (suc (next + nodes inputs)) row (stands-after_node tree above first next class inputs row s) h.2 x i n (omega arith))
  where
    within : StandsAt tree next 0 (suc next) inputs
    within = stands-inputs tree above first next class inputs row s

    by_place : (next ≡ x) ⊎ (next < x) → (x < suc (next + nodes inputs)) ⊎ (suc (next + nodes inputs) ≤ x) → (suc next ≤ x → x < suc next + nodes inputs → queue_of (input_at table x i) ≡ queue_at tree x i)
        → (suc (next + nodes inputs) ≤ x → queue_of (input_at table x i) ≡ queue_at tree x i) → queue_of (input_at table x i) ≡ queue_at tree x i
    by_place e place below later = search (rules, table-queue, within)

-- a table in which a tree stands has the queues of the tree
pub queue-is : (tree : Tree) (table : List Inputs) → StandsIn table 0 (root tree) → (x i : ℕ) → x < suc (nodes (root tree)) → queue_of (input_at table x i) ≡ queue_at tree x i
queue-is tree table h zero i l = table-queue table 0 (root tree) i h.here
queue-is tree table h (suc x) i l = row-queues tree table 0 0 1 (root tree) (stands-root tree) h.below (suc x) i (omega arith) (omega arith)

-- the visits of the block of a node are of that node and of those below it
pub block-nodes : (now : Now) (history : History) (x : ℕ) (class : Scheduler) (row : Row) (visits : List Visit) (got : Option Packet) → IsBlock now history x class row visits got
    → AllByRecursion (λ (v : Visit). (x ≤ v.node) × (v.node < suc (x + nodes row))) visits
block-nodes now history x class row visits got b =
    all-weaker (IsVisitBelow now x (node class row end) 0) (λ (v : Visit). (x ≤ v.node) × (v.node < suc (x + nodes row))) visits (λ v h. h.lies)
    (asked-below now history x (node class row end) 0 visits got b)

-- what answers the queues that visits asked by the table answers those that they asked by the tree
pub answers-tree : {S : Type 0} (gives : S → ℕ → Option Packet → S → Type 0) (tree : Tree) (table : List Inputs) (visits : List Visit) (a b : S) → StandsIn table 0 (root tree)
    → AllByRecursion (λ (v : Visit). v.node < suc (nodes (root tree))) visits → Answers gives (queue_asked table) a visits b → Answers gives (tree_queue tree) a visits b
answers-tree gives tree table [] a b stands within h = h
answers-tree {S = S} gives tree table (v ∷ visits) a b stands within h =
    by_queue (queue_asked table v) (tree_queue tree v) (search (rules, queue-is)) (λ c k. answers-tree gives tree table visits c b stands within.1 k) h
  where
    by_queue : (o p : Option ℕ) → o ≡ p → ((c : S) → Answers gives (queue_asked table) c visits b → Answers gives (tree_queue tree) c visits b)
        → at_queue gives o v.got a (λ c. Answers gives (queue_asked table) c visits b) → at_queue gives p v.got a (λ c. Answers gives (tree_queue tree) c visits b)
    by_queue o p e rest k = search rules
