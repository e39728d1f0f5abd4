-- Numbers in a row.
use Rattle.std.proofs.Common.{◌≡◌, ℕ, zero, suc, ◌+◌, ◌-◌, ◌≤◌, List, [], ◌∷◌, ◌++◌, map, take, drop, refl, sym, ap, ap₂, ◌∙◌, append_assoc, arith}
use Rattle.std.proofs.lemmas.List.FromFn.{map-range_with_len_more}
use Rattle.std.specs.List.{range_with_len}

pub range-append : (a m n : ℕ) → range_with_len a (m + n) ≡ range_with_len a m ++ range_with_len (a + m) n
range-append a zero n = let e : zero + n ≡ n = omega arith in let f : a + zero ≡ a = omega arith in ap (range_with_len a) e ∙ ap (λ b. range_with_len b n) (sym f)
range-append a (suc m) n =
    let e : suc m + n ≡ suc (m + n) = omega arith in
    let f : a + 1 + m ≡ a + suc m = omega arith in
    ap (range_with_len a) e ∙ ap (λ l. a ∷ l) (range-append (a + 1) m n ∙ ap (λ b. range_with_len (a + 1) m ++ range_with_len b n) f)

pub range-front : (a n k : ℕ) → k ≤ n → take k (range_with_len a n) ≡ range_with_len a k
range-front a n zero l = refl
range-front a zero (suc k) l = absurd (omega arith)
range-front a (suc n) (suc k) l = ap (λ xs. a ∷ xs) (range-front (a + 1) n k (omega arith))

-- numbers in a row, without those at the front
pub range-drop : (a n k : ℕ) → k ≤ n → drop k (range_with_len a n) ≡ range_with_len (a + k) (n - k)
range-drop a n zero l = ap₂ range_with_len (let here : a ≡ a + 0 = omega arith in here) (let all : n ≡ n - 0 = omega arith in all)
range-drop a zero (suc k) l = absurd (omega arith)
range-drop a (suc n) (suc k) l = range-drop (a + 1) n k (omega arith) ∙ ap₂ range_with_len (let here : a + 1 + k ≡ a + suc k = omega arith in here) (let rest : n - k ≡ suc n - suc k = omega arith in rest)

-- what is made of numbers in a row, after other things, and of one number more
pub range-next : {X : Type 0} (f : ℕ → X) (xs : List X) (a n : ℕ) → (xs ++ map f (range_with_len a n)) ++ f (a + n) ∷ [] ≡ xs ++ map f (range_with_len a (n + 1))
range-next f xs a n = append_assoc xs (map f (range_with_len a n)) (f (a + n) ∷ []) ∙ ap (λ l. xs ++ l) (sym (map-range_with_len_more f a n (a + n) refl))
