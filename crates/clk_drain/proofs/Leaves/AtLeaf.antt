-- What stands by rising leaves, searched for a leaf.
use Rattle.std.proofs.Common.{◌≡◌, ◌≢◌, ℕ, ◌<◌, ◌≤◌, ◌==◌, ◌||◌, Bool, true, false, nat_lt, zero, suc, List, [], ◌∷◌, length, map, get_or, slice_get, Some, Err, refl, subst, arith, rules}
use Rattle.std.proofs.lemmas.Bool.{eqb-true}
use Rattle.std.proofs.lemmas.Bool.Decides.{nat_tests}
use Rattle.std.proofs.lemmas.Option.{slice_get-map, slice_get-get_or}
use Rattle.std.specs.List.{AllByRecursion}
use Rattle.std.specs.List.Sorted.{IsBinarySearchResult, IsPartitionPoint}
use Rattle.std.specs.Ordering.{nat_cmp, ordering_index, MatchOrdering}
use Rattle.std.specs.declared.cmp.Ordering.{Ordering}
use Rattle.std.specs.declared.cmp.Ordering.TheVariants.{Less, Greater, Equal}
use Rattle.clk_packet.specs.Lists.{AreRising, stands_in}

-- a leaf below all is not that at a place
pub below-at : {X : Type 0} (leaf_of : X → ℕ) (n : ℕ) (each : List X) (i : ℕ) (d : X) → i < length each → AllByRecursion (λ m. n < m) (map leaf_of each) → n < leaf_of (get_or each i d)
below-at leaf_of n [] i d lt h = absurd (omega arith)
below-at leaf_of n (x ∷ each) zero d lt h = h.0
below-at leaf_of n (x ∷ each) (suc i) d lt h = below-at leaf_of n each i d (omega arith) h.1

rises-at : {X : Type 0} (leaf_of : X → ℕ) (each : List X) (i j : ℕ) (d : X) → AreRising (map leaf_of each) → i ≤ j → j < length each → leaf_of (get_or each i d) ≤ leaf_of (get_or each j d)
rises-at leaf_of [] i j d rise le lt = absurd (omega arith)
rises-at leaf_of (x ∷ each) zero (suc j) d rise le lt = search (rules, (below-at leaf_of (leaf_of x) each j d (omega arith)))
rises-at leaf_of (x ∷ each) i zero d rise le lt = search rules
rises-at leaf_of (x ∷ each) (suc i) (suc j) d rise le lt = rises-at leaf_of each i j d rise.1 (omega arith) (omega arith)

ranks : (m n : ℕ) → MatchOrdering (nat_cmp m n) (m < n) (m ≡ n) (n < m)
ranks m n = search rules

index-rises : (m n leaf : ℕ) → m ≤ n → ordering_index (nat_cmp m leaf) ≤ ordering_index (nat_cmp n leaf)
index-rises m n leaf le = search rules

apart-none : {X : Type 0} (leaf_of : X → ℕ) (each : List X) (leaf : ℕ) → ((k : ℕ) (d : X) → k < length each → leaf_of (get_or each k d) ≢ leaf) → stands_in leaf (map leaf_of each) ≡ false
apart-none leaf_of [] leaf h = refl
apart-none leaf_of (x ∷ each) leaf h = by_test (leaf_of x == leaf) refl (apart-none leaf_of each leaf (λ k d lt. h (suc k) d (omega arith)))
  where
    by_test : (b : Bool) → (leaf_of x == leaf) ≡ b → stands_in leaf (map leaf_of each) ≡ false → (b || stands_in leaf (map leaf_of each)) ≡ false
    by_test true e rest = absurd (h 0 x (omega arith) (eqb-true (leaf_of x) leaf e))
    by_test false e rest = rest

-- At a leaf that the search doesn't find stands nothing.
pub not-found : {X : Type 0} (leaf_of : X → ℕ) (each : List X) (leaf place : ℕ) → AreRising (map leaf_of each) → IsBinarySearchResult (λ x. nat_cmp (leaf_of x) leaf) each (Err place) → stands_in leaf (map leaf_of each) ≡ false
not-found {X} leaf_of each leaf place rise search = apart-none leaf_of each leaf (λ k d lt same. apart k d lt same (nat_lt k place) refl)
  where
    parted : IsPartitionPoint (λ x. nat_cmp (leaf_of x) leaf ≡ Less) (λ x. nat_cmp (leaf_of x) leaf ≡ Greater) each place
    parted = search (λ i j d le lt. index-rises (leaf_of (get_or each i d)) (leaf_of (get_or each j d)) leaf (rises-at leaf_of each i j d rise le lt))

    ordered : (n : ℕ) (o : Ordering) → nat_cmp n leaf ≡ o → MatchOrdering o (n < leaf) (n ≡ leaf) (leaf < n)
    ordered n o e = subst (λ o. MatchOrdering o (n < leaf) (n ≡ leaf) (leaf < n)) e (ranks n leaf)

    apart : (k : ℕ) (d : X) → k < length each → leaf_of (get_or each k d) ≡ leaf → (b : Bool) → nat_lt k place ≡ b → ⊥
    apart k d lt same true e =
        let before : k < place = grind (arith, nat_tests, e) in
        let below : leaf_of (get_or each k d) < leaf = ordered (leaf_of (get_or each k d)) Less (parted.0 k d (omega arith) before) in omega (arith, below, same)
    apart k d lt same false e =
        let behind : place ≤ k = grind (arith, nat_tests, e) in
        let above : leaf < leaf_of (get_or each k d) = ordered (leaf_of (get_or each k d)) Greater (parted.1 k d behind lt) in omega (arith, above, same)

-- what stands at a place stands at its leaf
pub leaf-there : {X : Type 0} (leaf_of : X → ℕ) (each : List X) (leaf place : ℕ) (d : X) → place < length each → leaf_of (get_or each place d) ≡ leaf → slice_get (map leaf_of each) place ≡ Some leaf
leaf-there leaf_of each leaf place d within same = search (rules, slice_get-map, slice_get-get_or)

-- so does what a search finds
pub place-found : {X : Type 0} (leaf_of : X → ℕ) (each : List X) (leaf place : ℕ) → place < length each → ((d : X) → nat_cmp (leaf_of (get_or each place d)) leaf ≡ Equal) → slice_get (map leaf_of each) place ≡ Some leaf
place-found leaf_of [] leaf place within found = absurd (omega arith)
place-found leaf_of (x ∷ each) leaf place within found = let here = found x in leaf-there leaf_of (x ∷ each) leaf place x within (search (rules, here))
