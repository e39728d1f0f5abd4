-- The pulls of a log with a log's shape: each is its own block, and its visits carry its number and its moment.
use Rattle.std.proofs.Common.{◌≡◌, ◌≢◌, ◌⊎◌, if◌then◌else◌, eq-or-lt_of_le, ℕ, zero, suc, ◌+◌, ◌<◌, ◌≤◌, ◌==◌, Bool, List, [], ◌∷◌, ◌++◌, length, map, refl, ◌∙◌, arith, rules}
use Rattle.std.specs.List.{flat_map, range_with_len, AllByRecursion}
use Rattle.std.proofs.lemmas.Bool.Decides.{nat_tests}
use Rattle.std.proofs.lemmas.List.{append-nil}
use Rattle.std.proofs.lemmas.List.Elements.{filter-append}
use Rattle.clk_sched.specs.declared.visit.Visit.{Visit}
use Rattle.clk_sched.specs.Tree.{Row, end, leaf, node, Tree, root, nodes}
use Rattle.clk_sched.specs.Turns.{EachAfter}
use Rattle.clk_sched.specs.Log.{visits_of, in_pull, pulls, block_at, block, HasOneMoment, HasLogShape}
use Rattle.clk_sched.proofs.Lists.Members.{of-all, to-all, in-filter, all-append, all-flat_map, filter-all, filter-none}
use Rattle.clk_sched.proofs.Lists.Numbers.{differs}

-- what a visit asked, in a row that stands at the inputs of its node, and then the visit
abbrev pub asked : List Visit → ℕ → Row → Visit → List Visit
asked pull next row v = (if v.fresh then block_at pull 0 next row v.input else []) ++ v ∷ []

-- what holds of a pull's visits holds of those in a block
asked-all : (P : Visit → Type 0) (pull : List Visit) (next : ℕ) (row : Row) (v : Visit) → AllByRecursion P (block_at pull 0 next row v.input) → P v → AllByRecursion P (asked pull next row v)
asked-all P pull next row v h k = search (rules, all-append)

visits-asked : (P : Visit → Type 0) (pull : List Visit) (x next : ℕ) (row : Row) → AllByRecursion P pull → ((input : ℕ) → AllByRecursion P (block_at pull 0 next row input))
    → AllByRecursion P (flat_map (asked pull next row) (visits_of x pull))
visits-asked P pull x next row h below =
    all-flat_map P (asked pull next row) (visits_of x pull) (λ v m. asked-all P pull next row v (below v.input) (of-all P v pull h (in-filter (λ (u : Visit). u.node == x) v pull m).0))

block_at-all : (P : Visit → Type 0) (pull : List Visit) (first next : ℕ) (row : Row) (input : ℕ) → AllByRecursion P pull → AllByRecursion P (block_at pull first next row input)
block_at-all P pull first next end input h = tt
block_at-all P pull first next (leaf q row) input h = search (rules, (block_at-all P pull (suc first) next row))
block_at-all P pull first next (node class inputs row) input h =
    by_test (first == input) refl (visits-asked P pull next (suc next) inputs h (λ i. block_at-all P pull 0 (suc next) inputs i h))
    (block_at-all P pull (suc first) (suc (next + nodes inputs)) row input h)
  where
    by_test : (b : Bool) → (first == input) ≡ b → AllByRecursion P (flat_map (asked pull (suc next) inputs) (visits_of next pull))
        → AllByRecursion P (block_at pull (suc first) (suc (next + nodes inputs)) row input) → AllByRecursion P (block_at pull first next (node class inputs row) input)
    by_test b e here rest = search rules

block-all : (P : Visit → Type 0) (tree : Tree) (pull : List Visit) → AllByRecursion P pull → AllByRecursion P (block tree pull)
block-all P tree pull h = visits-asked P pull 0 1 (root tree) h (λ i. block_at-all P pull 0 1 (root tree) i h)

pub in_pull-number : (k : ℕ) (log : List Visit) → AllByRecursion (λ (v : Visit). v.pull ≡ k) (in_pull k log)
in_pull-number k log = to-all _ (in_pull k log) (λ v m. let passes = (in-filter (λ (u : Visit). u.pull == k) v log m).1 in grind (arith, nat_tests))

-- the block of a pull, seen from that pull and from another
same-pull : (tree : Tree) (log : List Visit) (k : ℕ) → in_pull k (block tree (in_pull k log)) ≡ block tree (in_pull k log)
same-pull tree log k =
    filter-all (λ (v : Visit). v.pull == k) (block tree (in_pull k log))
    (block-all _ tree (in_pull k log) (to-all _ (in_pull k log) (λ v m. (in-filter (λ (u : Visit). u.pull == k) v log m).1)))

other-pull : (tree : Tree) (log : List Visit) (k j : ℕ) → j ≢ k → in_pull k (block tree (in_pull j log)) ≡ []
other-pull tree log k j d = search (rules, filter-none, block-all, to-all, of-all, in_pull-number, differs)

-- the blocks of pulls from one on
abbrev blocks_from : Tree → List Visit → ℕ → ℕ → List Visit
blocks_from tree log a n = flat_map (block tree) (map (λ k. in_pull k log) (range_with_len a n))

none-of : (tree : Tree) (log : List Visit) (k a n : ℕ) → k < a → in_pull k (blocks_from tree log a n) ≡ []
none-of tree log k a zero l = refl
none-of tree log k a (suc n) l = search (rules, filter-append, other-pull, (none-of tree log k (a + 1) n (omega arith)))

one-of : (tree : Tree) (log : List Visit) (k a n : ℕ) → a ≤ k → k < a + n → in_pull k (blocks_from tree log a n) ≡ block tree (in_pull k log)
one-of tree log k a zero l h = absurd (omega arith)
one-of tree log k a (suc n) l h =
    filter-append (λ (v : Visit). v.pull == k) (block tree (in_pull a log)) (blocks_from tree log (a + 1) n)
    ∙ by_cases (eq-or-lt_of_le l) (λ m. one-of tree log k (a + 1) n m (omega arith))
  where
    by_cases : (a ≡ k) ⊎ (a < k) → (a + 1 ≤ k → in_pull k (blocks_from tree log (a + 1) n) ≡ block tree (in_pull k log))
        → in_pull k (block tree (in_pull a log)) ++ in_pull k (blocks_from tree log (a + 1) n) ≡ block tree (in_pull k log)
    by_cases e rest = search (rules, same-pull, none-of, append-nil, other-pull)

-- a pull of a log, after those before it
pub record IsNumbered (tree : Tree) (earlier : List (List Visit)) (pull : List Visit) : Type 0 where
  pub number : AllByRecursion (λ (v : Visit). v.pull ≡ length earlier) pull
  pub whole : pull ≡ block tree pull
  pub one_moment : HasOneMoment pull

pulls-from : (tree : Tree) (log : List Visit) (earlier : List (List Visit)) (a n : ℕ) → length earlier ≡ a → ((k : ℕ) → k < a + n → in_pull k log ≡ block tree (in_pull k log))
    → AllByRecursion HasOneMoment (map (λ k. in_pull k log) (range_with_len a n)) → EachAfter (IsNumbered tree) earlier (map (λ k. in_pull k log) (range_with_len a n))
pulls-from tree log earlier a zero e whole one = tt
pulls-from tree log earlier a (suc n) e whole one = (
  record { number = rw e (in_pull-number a log); whole = whole a (omega arith); one_moment = one.0 },
  pulls-from tree log (in_pull a log ∷ earlier) (a + 1) n (omega (arith, e)) (λ k l. whole k (omega arith)) one.1,
)

pub each-numbered : (tree : Tree) (log : List Visit) → HasLogShape tree log → EachAfter (IsNumbered tree) [] (pulls log)
each-numbered tree log shape = search (rules, pulls-from, one-of)

pub each-whole : (tree : Tree) (log : List Visit) → HasLogShape tree log → AllByRecursion (λ pull. pull ≡ block tree pull) (pulls log)
each-whole tree log shape = wholes [] (pulls log) (each-numbered tree log shape)
  where
    wholes : (earlier ps : List (List Visit)) → EachAfter (IsNumbered tree) earlier ps → AllByRecursion (λ pull. pull ≡ block tree pull) ps
    wholes earlier [] h = tt
    wholes earlier (p ∷ ps) h = (h.0.whole, wholes (p ∷ earlier) ps h.1)
