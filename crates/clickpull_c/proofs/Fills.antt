-- One more value is filled in behind those that are.
use Rattle.std.proofs.Common.{◌≡◌, ℕ, ◌+◌, ◌<◌, ◌≤◌, suc, List, [], ◌∷◌, ◌++◌, length, take, drop, map, get_or, slice_set, refl, sym, ap, ◌∙◌, arith}
use Rattle.std.proofs.lemmas.List.{length-append, length-drop, length-map, length-take-le, map-append, drop_more, take_more, take_more_set}
use Rattle.clickpull_c.specs.Filled.{IsFilled}

-- the place behind a front is set
set-behind : {X : Type 0} (front before : List X) (y : X) → length front < length before → slice_set (front ++ drop (length front) before) (length front) y ≡ (front ++ y ∷ []) ++ drop (suc (length front)) before
set-behind [] [] y low = absurd (omega (arith, low))
set-behind [] (b ∷ before) y low = refl
set-behind (f ∷ front) [] y low = absurd (omega (arith, low))
set-behind (f ∷ front) (b ∷ before) y low = ap (λ l. f ∷ l) (set-behind front before y (omega (arith, low)))

pub fill-none : {X : Type 0} (before : List X) → IsFilled before before []
fill-none before = (omega arith, refl)

pub fill-more : {X : Type 0} (before filled front : List X) (y : X) (n : ℕ) → length front ≡ n → n < length before → IsFilled before filled front → IsFilled before (slice_set filled n y) (front ++ y ∷ [])
fill-more {X = X} before filled front y n many low h =
    let longer = length-append front (y ∷ []) in
    let there : length front < length before = omega (arith, many, low) in
    let one : suc (length front) ≡ length (front ++ y ∷ []) = omega (arith, longer) in
    let set_it : slice_set filled n y ≡ slice_set (front ++ drop (length front) before) (length front) y = ap (λ (l : List X). slice_set l n y) h.1 ∙ ap (λ k. slice_set (front ++ drop (length front) before) k y) (sym many) in
    ((omega (arith, longer, there)), set_it ∙ set-behind front before y there ∙ ap (λ k. (front ++ y ∷ []) ++ drop k before) one)

-- the first so many, mapped
pub front-length : {X Y : Type 0} (f : X → Y) (xs : List X) (n : ℕ) → n ≤ length xs → length (map f (take n xs)) ≡ n
front-length f xs n low = length-map (take n xs) f ∙ length-take-le n xs low

pub front-more : {X Y : Type 0} (f : X → Y) (xs : List X) (n : ℕ) (x : X) (y : Y) → n < length xs → get_or xs n x ≡ x → y ≡ f x → map f (take (n + 1) xs) ≡ map f (take n xs) ++ y ∷ []
front-more f xs n x y low is its =
    ap (map f) (take_more xs n x low) ∙ map-append f (take n xs) (get_or xs n x ∷ []) ∙ ap (λ z. map f (take n xs) ++ f z ∷ []) is ∙ ap (λ z. map f (take n xs) ++ z ∷ []) (sym its)

pub front-set : {X Y : Type 0} (f : X → Y) (xs : List X) (n : ℕ) (x : X) (y : Y) → n < length xs → y ≡ f x → map f (take (n + 1) (slice_set xs n x)) ≡ map f (take n xs) ++ y ∷ []
front-set f xs n x y low its = ap (map f) (take_more_set xs n x low) ∙ map-append f (take n xs) (x ∷ []) ∙ ap (λ z. map f (take n xs) ++ z ∷ []) (sym its)

-- the next of those that are left
pub record IsNext {X : Type 0} (xs : List X) (n : ℕ) (x : X) (others : List X) : Type 0 where
  pub low : n < length xs
  pub many : length (take n xs) ≡ n
  pub front : take (n + 1) xs ≡ take n xs ++ x ∷ []
  pub left : drop (n + 1) xs ≡ others

pub next-of : {X : Type 0} (xs : List X) (n : ℕ) (x : X) (rest : List X) → drop n xs ≡ x ∷ rest → IsNext xs n x rest
next-of {X = X} xs n x rest is =
    let low : n < length xs = (let left = length-drop n xs in let some = ap length is in omega (arith, left, some)) in
    let both : get_or xs n x ∷ drop (n + 1) xs ≡ x ∷ rest = sym (drop_more xs n x low) ∙ is in
    let first : get_or xs n x ≡ x = cc in
    record { low = low; many = length-take-le n xs (omega (arith, low)); front = take_more xs n x low ∙ ap (λ z. take n xs ++ z ∷ []) first; left = cc }
