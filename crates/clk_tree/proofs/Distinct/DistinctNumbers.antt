-- Lists in which no number stands twice.
use Rattle.std.proofs.Common.{◌≡◌, ◌⊎◌, ℕ, ◌≤◌, ◌<◌, ◌==◌, ◌||◌, true, false, List, [], ◌∷◌, ◌++◌, length, Option, Some, inl, inr, refl, sym, ap, subst, eq-eqb, eqb-true, ne_eqb, rules}
use Rattle.std.specs.Bool.{⊤}
use Rattle.std.specs.List.{AllByRecursion, list_any, filter_map, cons_option, IsDistinct}
use Rattle.std.proofs.lemmas.Bool.{or_right, false_from_ne_true, false≢true, both_ways}
use Rattle.std.proofs.lemmas.Map.Steps.{length-le_from_distinct_below}
use Rattle.std.proofs.lemmas.Option.{same_Some}
use Rattle.clk_packet.specs.Lists.{In, stands_in, are_distinct}
use Rattle.clk_packet.proofs.Callers.Lists.{distinct-parts, distinct-more}

abbrev pub Distinct : List ℕ → Type 0
Distinct [] = ⊤
Distinct (x ∷ xs) = (In x xs → ⊥) × Distinct xs

pub in-all : (P : ℕ → Type 0) (x : ℕ) (xs : List ℕ) → AllByRecursion P xs → In x xs → P x
in-all P x [] all m = absurd m
in-all P x (y ∷ ys) all (inl e) = subst P e all.0
in-all P x (y ∷ ys) all (inr m) = in-all P x ys all.1 m

-- the test of distinct numbers says so
pub in-stands : (x : ℕ) (xs : List ℕ) → In x xs → stands_in x xs ≡ true
in-stands x [] m = absurd m
in-stands x (y ∷ ys) (inl e) = ap (λ b. b || stands_in x ys) (eq-eqb y x e)
in-stands x (y ∷ ys) (inr m) = or_right (y == x) (stands_in x ys) (in-stands x ys m)

pub stands-in : (x : ℕ) (xs : List ℕ) → stands_in x xs ≡ true → In x xs
stands-in x [] s = absurd (false≢true s)
stands-in x (y ∷ ys) s = search (rules, false≢true, eqb-true, (stands-in x ys))

pub test-distinct : (xs : List ℕ) → are_distinct xs ≡ true → Distinct xs
test-distinct [] t = tt
test-distinct (x ∷ xs) t =
    let parts = distinct-parts x xs t in
    (λ m. both_ways (stands_in x xs) parts.0 (in-stands x xs m), test-distinct xs parts.1)

pub distinct-test : (xs : List ℕ) → Distinct xs → are_distinct xs ≡ true
distinct-test [] d = refl
distinct-test (x ∷ xs) d = distinct-more x xs (false_from_ne_true (stands_in x xs) (λ s. d.0 (stands-in x xs s))) (distinct-test xs d.1)

pub all-of : (P : ℕ → Type 0) (xs : List ℕ) → ((x : ℕ) → In x xs → P x) → AllByRecursion P xs
all-of P [] each = tt
all-of P (x ∷ xs) each = (each x (inl refl), all-of P xs (λ y m. each y (inr m)))

-- two lists in a row
pub in-left : (x : ℕ) (xs ys : List ℕ) → In x xs → In x (xs ++ ys)
in-left x [] ys m = absurd m
in-left x (z ∷ xs) ys (inl e) = inl e
in-left x (z ∷ xs) ys (inr m) = inr (in-left x xs ys m)

pub in-right : (x : ℕ) (xs ys : List ℕ) → In x ys → In x (xs ++ ys)
in-right x [] ys m = m
in-right x (z ∷ xs) ys m = inr (in-right x xs ys m)

pub in-append : (x : ℕ) (xs ys : List ℕ) → In x (xs ++ ys) → In x xs ⊎ In x ys
in-append x [] ys m = inr m
in-append x (z ∷ xs) ys (inl e) = inl (inl e)
in-append x (z ∷ xs) ys (inr m) = search (rules, (in-append x xs ys m))

pub distinct-append : (xs ys : List ℕ) → Distinct xs → Distinct ys → ((x : ℕ) → In x xs → In x ys → ⊥) → Distinct (xs ++ ys)
distinct-append [] ys d e apart = e
distinct-append (x ∷ xs) ys d e apart = (λ m. by_part (in-append x xs ys m), distinct-append xs ys d.1 e (λ y m. apart y (inr m)))
  where
    by_part : In x xs ⊎ In x ys → ⊥
    by_part (inl m) = d.0 m
    by_part (inr m) = apart x (inl refl) m

-- what a function gives of distinct numbers is distinct where it gives no two of them the same
pub record ComesFrom (f : ℕ → Option ℕ) (y : ℕ) (xs : List ℕ) : Type 0 where
  pub from : ℕ
  pub among : In from xs
  pub gives : f from ≡ Some y

pub mapped-from : (f : ℕ → Option ℕ) (y : ℕ) (xs : List ℕ) → In y (filter_map f xs) → ComesFrom f y xs
mapped-from f y [] m = absurd m
mapped-from f y (x ∷ xs) m = by_option (f x) refl (λ k. later (mapped-from f y xs k)) m
  where
    later : ComesFrom f y xs → ComesFrom f y (x ∷ xs)
    later r = record { from = r.from; among = inr r.among; gives = r.gives }

    by_option : (o : Option ℕ) → f x ≡ o → (In y (filter_map f xs) → ComesFrom f y (x ∷ xs)) → In y (cons_option o (filter_map f xs)) → ComesFrom f y (x ∷ xs)
    by_option o e rest k = search rules

pub in-mapped : (f : ℕ → Option ℕ) (x y : ℕ) (xs : List ℕ) → In x xs → f x ≡ Some y → In y (filter_map f xs)
in-mapped f x y [] m is = absurd m
in-mapped f x y (z ∷ xs) (inl e) is = search (rules, same_Some)
in-mapped f x y (z ∷ xs) (inr m) is = search (rules, same_Some, (in-mapped f x y xs m is))

pub distinct-mapped : (f : ℕ → Option ℕ) (xs : List ℕ) → ((a b y : ℕ) → f a ≡ Some y → f b ≡ Some y → a ≡ b) → Distinct xs → Distinct (filter_map f xs)
distinct-mapped f [] one d = tt
distinct-mapped f (x ∷ xs) one d = by_option (f x) refl (distinct-mapped f xs one d.1)
  where
    by_option : (o : Option ℕ) → f x ≡ o → Distinct (filter_map f xs) → Distinct (cons_option o (filter_map f xs))
    by_option o e rest = search (rules, mapped-from)

-- distinct numbers below another are at most as many
any-in : (x : ℕ) (xs : List ℕ) → list_any (λ y. x == y) xs ≡ true → In x xs
any-in x [] t = absurd (false≢true t)
any-in x (y ∷ ys) t = search (rules, false≢true, eqb-true, (any-in x ys))

differ-all : (x : ℕ) (xs : List ℕ) → (In x xs → ⊥) → AllByRecursion (λ y. (x == y) ≡ false) xs
differ-all x [] none = tt
differ-all x (y ∷ ys) none = (ne_eqb x y (λ e. none (inl (sym e))), differ-all x ys (λ m. none (inr m)))

keys-distinct : (xs : List ℕ) → Distinct xs → IsDistinct (λ x y. x == y) xs
unfolding IsDistinct
keys-distinct [] d = tt
keys-distinct (x ∷ xs) d = (differ-all x xs d.0, keys-distinct xs d.1)

pub distinct-below : (n : ℕ) (xs : List ℕ) → Distinct xs → ((x : ℕ) → In x xs → x < n) → length xs ≤ n
distinct-below n xs d below = length-le_from_distinct_below xs n (keys-distinct xs d) (λ x t. below x (any-in x xs t))
