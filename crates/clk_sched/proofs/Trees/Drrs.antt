-- DRRScheds above the queues of trees, as they are counted one tree after another.
use Rattle.std.proofs.Common.{◌≡◌, ℕ, ◌+◌, ◌<◌, ◌≤◌, ◌||◌, Bool, true, false, if◌then◌else◌, List, ◌∷◌, ◌++◌, length, get_or, max, refl, sym, ap, ◌∙◌, subst, append-nil, arith, eq-eqb, rules}
use Rattle.std.proofs.lemmas.Bool.{false≢true}
use Rattle.clk_packet.specs.declared.limits.TheConstants.{MAX_LEVELS}
use Rattle.clk_packet.specs.Lists.{stands_in, are_distinct}
use Rattle.clk_packet.specs.Scheduler.{Scheduler}
use Rattle.clk_sched.specs.Tree.{Row, end, leaf, node, Tree, queue, root, height, leaves}
use Rattle.clk_sched.specs.Built.{row, levels}
use Rattle.clk_sched.specs.FewHeads.{most_heads, drrs_above}
use Rattle.clk_sched.specs.inside.Drrs.{HasPlaces, IsCounted}
use Rattle.clk_sched.proofs.Trees.Distinct.{or-neither, stands-neither, distinct-parts}
use Rattle.clk_sched.proofs.Trees.TreeLemmas.{stands_in-append}

or_true : (b : Bool) → (b || true) ≡ true
or_true b = search rules

-- no DRRSched stands above a queue that a row doesn't have
drrs-none : (q : ℕ) (r : Row) → stands_in q (leaves r) ≡ false → drrs_above q r ≡ 0
drrs-none q end none = refl
drrs-none q (leaf p r) none = drrs-none q r (or-neither _ (stands_in q (leaves r)) none).1
drrs-none q (node class inputs r) none =
    let parts = stands-neither q (leaves inputs) (leaves r) none in
    ap (λ (b : Bool). if b then most_heads class + drrs_above q inputs else drrs_above q r) parts.0 ∙ drrs-none q r parts.1

-- the queues of a tree and of those after it
leaves-cons : (t : Tree) (ts : List Tree) → leaves (row (t ∷ ts)) ≡ leaves (root t) ++ leaves (row ts)
leaves-cons t ts = search rules

-- a queue of the first tree, and one of those after it, has as many DRRScheds above it as there alone
drrs-first : (q : ℕ) (t : Tree) (ts : List Tree) → stands_in q (leaves (root t)) ≡ true → stands_in q (leaves (row ts)) ≡ false → drrs_above q (row (t ∷ ts)) ≡ drrs_above q (root t)
drrs-first q t ts first later = search (rules, drrs-none, append-nil)

drrs-later : (q : ℕ) (t : Tree) (ts : List Tree) → stands_in q (leaves (root t)) ≡ false → drrs_above q (row (t ∷ ts)) ≡ drrs_above q (row ts)
drrs-later q t ts first = search rules

height-cons : (t : Tree) (ts : List Tree) → height (row (t ∷ ts)) ≡ max (height (root t)) (height (row ts))
height-cons t ts = search rules

height-root : (t : Tree) → height (root t) ≡ levels t
height-root t = search rules

most-one : (class : Scheduler) → most_heads class ≤ 1
most-one class = search rules

-- no more DRRScheds stand above a queue than schedulers on the longest path
drrs-low : (q : ℕ) (r : Row) → drrs_above q r ≤ height r
drrs-low q end = omega arith
drrs-low q (leaf p r) = drrs-low q r
drrs-low q (node class inputs r) = search (rules, (stands_in q (leaves inputs)), (most-one class), (drrs-low q inputs), (drrs-low q r))

pub drrs-within : (q : ℕ) (t : Tree) → levels t ≤ MAX_LEVELS → drrs_above q (root t) ≤ MAX_LEVELS
drrs-within q t low = omega (arith, low, height-root t, drrs-low q (root t))

-- what a count of a row needs
pub record CanCount (above : ℕ) (table : List ℕ) (r : Row) : Type 0 where
  pub places : HasPlaces r table
  pub distinct : are_distinct (leaves r) ≡ true
  pub low : above + height r ≤ MAX_LEVELS

-- a row of trees is that of the first and that of the others
module _ (above : ℕ) (t : Tree) (ts : List Tree) where
  parts : are_distinct (leaves (row (t ∷ ts))) ≡ true → (q : ℕ)
      → (are_distinct (leaves (root t)) ≡ true) × (are_distinct (leaves (row ts)) ≡ true) × (stands_in q (leaves (root t)) ≡ true → stands_in q (leaves (row ts)) ≡ false)
  parts distinct q = distinct-parts q (leaves (root t)) (leaves (row ts)) (ap are_distinct (sym (leaves-cons t ts)) ∙ distinct)

  stands : (q : ℕ) → stands_in q (leaves (row (t ∷ ts))) ≡ (stands_in q (leaves (root t)) || stands_in q (leaves (row ts)))
  stands q = ap (stands_in q) (leaves-cons t ts) ∙ stands_in-append q (leaves (root t)) (leaves (row ts))

  pub can-first : (table : List ℕ) → CanCount above table (row (t ∷ ts)) → CanCount above table (root t)
  can-first table can = record {
    places = λ q among. can.places q (stands q ∙ ap (λ b. b || stands_in q (leaves (row ts))) among);
    distinct = (parts can.distinct 0).0;
    low = omega (arith, can.low, height-cons t ts);
  }

  pub can-later : (table same : List ℕ) → length same ≡ length table → CanCount above table (row (t ∷ ts)) → CanCount above same (row ts)
  can-later table same long can = record {
    places = λ q among. (let below = can.places q (stands q ∙ ap (λ b. stands_in q (leaves (root t)) || b) among ∙ or_true (stands_in q (leaves (root t)))) in omega (arith, below, long));
    distinct = (parts can.distinct 0).1;
    low = omega (arith, can.low, height-cons t ts);
  }

  pub counted-cons : (old between new : List ℕ) → are_distinct (leaves (row (t ∷ ts))) ≡ true → IsCounted above (root t) old between → IsCounted above (row ts) between new → IsCounted above (row (t ∷ ts)) old new
  counted-cons old between new distinct first later = record {
    long = later.long ∙ first.long;
    each = λ q. subst (λ (b : Bool). get_or new q 0 ≡ (if b then above + drrs_above q (row (t ∷ ts)) else get_or old q 0)) (sym (stands q))
        (by_tests q (stands_in q (leaves (root t))) (stands_in q (leaves (row ts))) refl refl (first.each q) (later.each q));
  }
    where
      by_tests : (q : ℕ) (a b : Bool) → stands_in q (leaves (root t)) ≡ a → stands_in q (leaves (row ts)) ≡ b
          → get_or between q 0 ≡ (if a then above + drrs_above q (root t) else get_or old q 0)
          → get_or new q 0 ≡ (if b then above + drrs_above q (row ts) else get_or between q 0)
          → get_or new q 0 ≡ (if (a || b) then above + drrs_above q (row (t ∷ ts)) else get_or old q 0)
      by_tests q true true e f x y = absurd (false≢true (sym ((parts distinct q).2 e) ∙ f))
      by_tests q true false e f x y = y ∙ x ∙ ap (λ n. above + n) (sym (drrs-first q t ts e f))
      by_tests q false true e f x y = y ∙ ap (λ n. above + n) (sym (drrs-later q t ts e))
      by_tests q false false e f x y = y ∙ x

-- the queue that a tree is has a place
pub leaf-place : (q : ℕ) (t : Tree) (table : List ℕ) → t ≡ queue q → HasPlaces (root t) table → q < length table
leaf-place q t table e places = subst (λ (s : Tree). HasPlaces (root s) table) e places q (ap (λ b. b || false) (eq-eqb q q refl))
