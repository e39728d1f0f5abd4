-- Ranges of places, as the connections of an element are gone over.
use Rattle.std.proofs.Common.{◌≡◌, ◌<◌, ◌+◌, ◌-◌, ℕ, zero, suc, List, [], ◌∷◌, ◌++◌, map, Bool, true, false, if◌then◌else◌, filter, append_assoc, sym, ap, ◌∙◌, add-one, add-zero, zero-add, arith, rules}
use Rattle.std.specs.List.{range_with_len}

range-more : (f : ℕ → ℕ) (a n : ℕ) → map f (range_with_len a (suc n)) ≡ map f (range_with_len a n) ++ f (a + n) ∷ []
range-more f a zero = ap (λ k. f k ∷ []) (sym (add-zero a))
range-more f a (suc n) = ap (λ xs. f a ∷ xs) (range-more f (a + 1) n ∙ ap (λ k. map f (range_with_len (a + 1) n) ++ f k ∷ []) (omega arith))

-- one more number of a range from 0
pub map-range-more : (f : ℕ → ℕ) (n : ℕ) → map f (range_with_len 0 (n + 1)) ≡ map f (range_with_len 0 n) ++ f n ∷ []
map-range-more f n = rw (add-one n) (range-more f 0 n ∙ ap (λ k. map f (range_with_len 0 n) ++ f k ∷ []) (zero-add n))

-- what is left of a range begins with the next number
pub range-next : (a n : ℕ) → a < n → range_with_len a (n - a) ≡ a ∷ range_with_len (a + 1) (n - (a + 1))
range-next a n l = search rules

abbrev rest-of : (f : ℕ → Bool) (a n : ℕ) → List ℕ
rest-of f a n = filter f (range_with_len (a + 1) (n - (a + 1)))

filter-first : (f : ℕ → Bool) (a n : ℕ) (b : Bool) → b ≡ f a → a < n → filter f (range_with_len a (n - a)) ≡ (if b then a ∷ rest-of f a n else rest-of f a n)
filter-first f a n b is l = ap (filter f) (range-next a n l) ∙ ap (λ c. if c then a ∷ rest-of f a n else rest-of f a n) (sym is)

-- one more place of a range is kept where it passes a test
pub filter-next : (f : ℕ → Bool) (xs ys all : List ℕ) (a n : ℕ) (keep : Bool) → keep ≡ f a → a < n → xs ++ filter f (range_with_len a (n - a)) ≡ all
    → ys ≡ (if keep then xs ++ a ∷ [] else xs) → ys ++ filter f (range_with_len (a + 1) (n - (a + 1))) ≡ all
filter-next f xs ys all a n true is l h made =
    ap (λ zs. zs ++ rest-of f a n) made ∙ append_assoc xs (a ∷ []) (rest-of f a n) ∙ ap (λ r. xs ++ r) (sym (filter-first f a n true is l)) ∙ h
filter-next f xs ys all a n false is l h made =
    ap (λ zs. zs ++ rest-of f a n) made ∙ ap (λ r. xs ++ r) (sym (filter-first f a n false is l)) ∙ h
