-- A tree holds no more heads of a queue than DRRScheds stand above the queue.
use Rattle.std.proofs.Common.{◌≡◌, ℕ, zero, suc, ◌+◌, ◌<◌, ◌≤◌, ◌==◌, Bool, true, false, List, [], ◌++◌, length, length-append, reverse, Option, refl, sym, ap, ◌∙◌, subst, arith, rules}
use Rattle.std.specs.List.{flat_map, range_with_len}
use Rattle.std.proofs.lemmas.Bool.{false≢true}
use Rattle.clk_packet.specs.declared.packet.Packet.{Packet}
use Rattle.clk_packet.specs.Lists.{stands_in, are_distinct}
use Rattle.clk_packet.proofs.Callers.Lists.{distinct-parts as first-parts}
use Rattle.clk_sched.proofs.Trees.Distinct.{distinct-parts}
use Rattle.clk_sched.specs.declared.visit.Visit.{Visit}
use Rattle.clk_packet.specs.Scheduler.{Scheduler, drr}
use Rattle.clk_sched.specs.Tree.{Row, end, leaf, node, Tree, root, nodes, width, leaves, leaves_distinct}
use Rattle.clk_sched.specs.Log.{visits_of}
use Rattle.clk_sched.specs.Laws.{manner}
use Rattle.clk_sched.specs.Results.{Traced, traced, origin_in, held_at, own_heads}
use Rattle.clk_sched.proofs.Conservation.RowHeads.{row_heads, tree-heads}
use Rattle.clk_sched.specs.Conservation.{from_queue}
use Rattle.clk_sched.specs.FewHeads.{most_heads, drrs_above, HoldsFewHeads}
use Rattle.clk_sched.proofs.Conservation.Origins.{latest-not, passed-not, origin-not, from_queue-append, traced-not, heads-not, node-not}
use Rattle.clk_sched.proofs.Lists.Numbers.{is_number}

-- a queue is the origin of what one input alone got
record HasOneInput (q : ℕ) (log : List Visit) (next : ℕ) (row : Row) : Type 0 where
  input : ℕ
  others : (i k : ℕ) → (i == input) ≡ false → is_number q (origin_in log next row i k) ≡ false

one-input : (q : ℕ) (log : List Visit) (next : ℕ) (row : Row) → are_distinct (leaves row) ≡ true → HasOneInput q log next row
one-input q log next end distinct = record { input = 0; others = λ i k other. refl }
one-input q log next (leaf p row) distinct = by_test (p == q) refl (one-input q log next row parts.1)
  where
    parts : (stands_in p (leaves row) ≡ false) × (are_distinct (leaves row) ≡ true)
    parts = first-parts p (leaves row) distinct

    by_test : (b : Bool) → (p == q) ≡ b → HasOneInput q log next row → HasOneInput q log next (leaf p row)
    by_test true e rest = record { input = 0; others = others }
      where
        others : (i k : ℕ) → (i == 0) ≡ false → is_number q (origin_in log next (leaf p row) i k) ≡ false
        others i k other = search (rules, false≢true, origin-not)
    by_test false e rest = record { input = suc rest.input; others = others }
      where
        others : (i k : ℕ) → (i == suc rest.input) ≡ false → is_number q (origin_in log next (leaf p row) i k) ≡ false
        others i k other = search rules
one-input q log next (node class inputs row) distinct = by_test (stands_in q (leaves inputs)) refl (one-input q log (suc (next + nodes inputs)) row (distinct-parts q (leaves inputs) (leaves row) distinct).1)
  where
    by_test : (b : Bool) → stands_in q (leaves inputs) ≡ b → HasOneInput q log (suc (next + nodes inputs)) row → HasOneInput q log next (node class inputs row)
    by_test true e rest = record { input = 0; others = others }
      where
        others : (i k : ℕ) → (i == 0) ≡ false → is_number q (origin_in log next (node class inputs row) i k) ≡ false
        others zero k other = absurd (false≢true (sym other))
        others (suc i) k other = origin-not q log (suc (next + nodes inputs)) row i k ((distinct-parts q (leaves inputs) (leaves row) distinct).2 e)
    by_test false e rest = record { input = suc rest.input; others = others }
      where
        others : (i k : ℕ) → (i == suc rest.input) ≡ false → is_number q (origin_in log next (node class inputs row) i k) ≡ false
        others i k other = grind (arith, passed-not, origin-not)

-- so a scheduler holds one head of the queue at most
one-traced : (q : ℕ) (o : Option Packet) (origin : Option ℕ) → length (from_queue q (traced o origin)) ≤ 1
one-traced q o origin = search rules

one-held : (q : ℕ) (f : ℕ → List Traced) (input : ℕ) → ((i : ℕ) → length (from_queue q (f i)) ≤ 1) → ((i : ℕ) → (i == input) ≡ false → from_queue q (f i) ≡ []) → (a n : ℕ)
    → (length (from_queue q (flat_map f (range_with_len a n))) ≤ 1) × (input < a → length (from_queue q (flat_map f (range_with_len a n))) ≡ 0)
one-held q f input most others a zero = (omega arith, λ below. refl)
one-held q f input most others a (suc n) = search (rules, joined, (one-held q f input most others (a + 1) n))
  where
    joined : length (from_queue q (f a ++ flat_map f (range_with_len (a + 1) n))) ≡ length (from_queue q (f a)) + length (from_queue q (flat_map f (range_with_len (a + 1) n)))
    joined = ap length (from_queue-append q (f a) (flat_map f (range_with_len (a + 1) n))) ∙ length-append (from_queue q (f a)) (from_queue q (flat_map f (range_with_len (a + 1) n)))

own-few : (q : ℕ) (log : List Visit) (x : ℕ) (class : Scheduler) (inputs : Row) → are_distinct (leaves inputs) ≡ true → length (from_queue q (own_heads log x inputs (manner class (width inputs)))) ≤ most_heads class
own-few q log x (drr quanta) inputs distinct =
    let one = one-input q log (suc x) inputs distinct in
    (one-held q (held_at log x inputs) one.input (λ i. one-traced q _ _) (λ i other. traced-not q _ _ (latest-not q (origin_in log (suc x) inputs i) i (reverse (visits_of x log)) (λ k. one.others i k other))) 0 (width inputs)).0
own-few q log x class inputs distinct = omega arith

few-heads : (q : ℕ) (log : List Visit) (next : ℕ) (row : Row) → are_distinct (leaves row) ≡ true → length (from_queue q (row_heads log next row)) ≤ drrs_above q row
few-heads q log next end distinct = omega arith
few-heads q log next (leaf p row) distinct = few-heads q log next row (first-parts p (leaves row) distinct).1
few-heads q log next (node class inputs row) distinct = search (rules, own-few, heads-not, from_queue-append, length-append, node-not, parts, (stands_in q (leaves inputs)), (few-heads q log (suc next) inputs parts.0), (few-heads q log (suc (next + nodes inputs)) row parts.1))
  where
    parts : (are_distinct (leaves inputs) ≡ true) × (are_distinct (leaves row) ≡ true) × (stands_in q (leaves inputs) ≡ true → stands_in q (leaves row) ≡ false)
    parts = distinct-parts q (leaves inputs) (leaves row) distinct

pub holds-few_heads : (tree : Tree) → leaves_distinct tree ≡ true → HoldsFewHeads tree
holds-few_heads tree distinct log q =
    subst (λ held. length (from_queue q held) ≤ drrs_above q (root tree)) (sym (tree-heads tree log)) (few-heads q log 1 (root tree) distinct)
