-- Lists that a law goes over.
use Rattle.std.proofs.Common.{◌≡◌, ◌⊎◌, inl, inr, ℕ, ◌<◌, ◌==◌, ◌||◌, Bool, true, false, true≢false, not, List, [], ◌∷◌, ◌++◌, refl, sym, ap, ◌∙◌, arith, ne_eqb}
use Rattle.std.proofs.lemmas.Bool.{and_from, and_parts, not-true, not_from_false, or_right}
use Rattle.std.specs.List.{AllByRecursion}
use Rattle.clk_packet.specs.Lists.{stands_in, are_distinct, AreRising}

-- what holds of each member of two lists
pub all-append : {X : Type 0} (P : X → Type 0) (xs ys : List X) → AllByRecursion P xs → AllByRecursion P ys → AllByRecursion P (xs ++ ys)
all-append P [] ys h k = k
all-append P (x ∷ xs) ys h k = (h.0, all-append P xs ys h.1 k)

-- what follows of each member from two things that hold of it
pub all-both : {X : Type 0} (P Q R : X → Type 0) (xs : List X) → ((x : X) → P x → Q x → R x) → AllByRecursion P xs → AllByRecursion Q xs → AllByRecursion R xs
all-both P Q R [] f h k = tt
all-both P Q R (x ∷ xs) f h k = (f x h.0 k.0, all-both P Q R xs f h.1 k.1)

-- a number that stands in one of two lists
pub stands-left : (n : ℕ) (xs ys : List ℕ) → stands_in n xs ≡ true → stands_in n (xs ++ ys) ≡ true
stands-left n [] ys h = absurd (true≢false (sym h))
stands-left n (x ∷ xs) ys h = by_test (x == n) (stands-left n xs ys) h
  where
    by_test : (b : Bool) → (stands_in n xs ≡ true → stands_in n (xs ++ ys) ≡ true) → (b || stands_in n xs) ≡ true → (b || stands_in n (xs ++ ys)) ≡ true
    by_test true again k = refl
    by_test false again k = again k

pub stands-right : (n : ℕ) (xs ys : List ℕ) → stands_in n ys ≡ true → stands_in n (xs ++ ys) ≡ true
stands-right n [] ys h = h
stands-right n (x ∷ xs) ys h = or_right (x == n) (stands_in n (xs ++ ys)) (stands-right n xs ys h)

-- and one of the two where it stands in both together
pub stands-either : (n : ℕ) (xs ys : List ℕ) → stands_in n (xs ++ ys) ≡ true → (stands_in n xs ≡ true) ⊎ (stands_in n ys ≡ true)
stands-either n [] ys h = inr h
stands-either n (x ∷ xs) ys h = by_test (x == n) (stands-either n xs ys) h
  where
    by_test : (b : Bool) → (stands_in n (xs ++ ys) ≡ true → (stands_in n xs ≡ true) ⊎ (stands_in n ys ≡ true)) → (b || stands_in n (xs ++ ys)) ≡ true
        → ((b || stands_in n xs) ≡ true) ⊎ (stands_in n ys ≡ true)
    by_test true again k = inl refl
    by_test false again k = again k

-- Where no number stands twice, the first doesn't stand in the rest.
pub distinct-parts : (n : ℕ) (numbers : List ℕ) → are_distinct (n ∷ numbers) ≡ true → (stands_in n numbers ≡ false) × (are_distinct numbers ≡ true)
distinct-parts n numbers h = let both = and_parts (not (stands_in n numbers)) (are_distinct numbers) h in (not-true (stands_in n numbers) both.0, both.1)

pub distinct-more : (n : ℕ) (numbers : List ℕ) → stands_in n numbers ≡ false → are_distinct numbers ≡ true → are_distinct (n ∷ numbers) ≡ true
distinct-more n numbers none rest = and_from (not (stands_in n numbers)) (are_distinct numbers) (not_from_false (stands_in n numbers) none) rest

-- Of numbers that rise none stands twice.
pub below-none : (n : ℕ) (numbers : List ℕ) → AllByRecursion (λ m. n < m) numbers → stands_in n numbers ≡ false
below-none n [] below = refl
below-none n (m ∷ numbers) below = ap (λ (b : Bool). b || stands_in n numbers) (ne_eqb m n (λ e. let lt = below.0 in omega (arith, lt, e))) ∙ below-none n numbers below.1

pub rising-distinct : (numbers : List ℕ) → AreRising numbers → are_distinct numbers ≡ true
rising-distinct [] rising = refl
rising-distinct (n ∷ numbers) rising = distinct-more n numbers (below-none n numbers rising.0) (rising-distinct numbers rising.1)
