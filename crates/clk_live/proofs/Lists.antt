-- Lists with one member replaced, and lists side by side.
use Rattle.std.proofs.Common.{◌≡◌, ℕ, zero, suc, ◌+◌, ◌<◌, ◌==◌, ◌⊎◌, inl, inr, false, List, [], ◌∷◌, ◌++◌, length, map, take, drop, set, Option, Some, None, MatchOption, slice_get, refl, sym, ap, ◌∙◌, subst, arith}
use Rattle.std.specs.List.{AllZip}
use Rattle.std.proofs.lemmas.Bool.Decides.{nat_tests}

-- an option that is there
pub there : {X : Type 0} (P : X → Type 0) (o : Option X) → MatchOption o ⊥ P → (x : X) × (o ≡ Some x) × P x
there P None h = absurd h
there P (Some x) h = (x, refl, h)

-- a member at a place that is there
pub member : {X : Type 0} (xs : List X) (i : ℕ) → i < length xs → (x : X) × (slice_get xs i ≡ Some x)
member [] i low = absurd (omega (arith, low))
member (x ∷ xs) zero low = (x, refl)
member (x ∷ xs) (suc i) low = member xs i (omega (arith, low))

-- a member of a list in which one was replaced
pub set-cases : {X : Type 0} (xs : List X) (i k : ℕ) (y z : X) → slice_get (set xs i y) k ≡ Some z → ((k ≡ i) × (y ≡ z)) ⊎ (((k == i) ≡ false) × (slice_get xs k ≡ Some z))
set-cases [] i k y z e = absurd (cc)
set-cases (x ∷ xs) zero zero y z e = inl (refl, cc)
set-cases (x ∷ xs) zero (suc k) y z e = inr (grind (arith, nat_tests), e)
set-cases (x ∷ xs) (suc i) zero y z e = inr (grind (arith, nat_tests), e)
set-cases {X} (x ∷ xs) (suc i) (suc k) y z e = later (set-cases xs i k y z e)
  where
    later : ((k ≡ i) × (y ≡ z)) ⊎ (((k == i) ≡ false) × (slice_get xs k ≡ Some z)) → ((suc k ≡ suc i) × (y ≡ z)) ⊎ (((suc k == suc i) ≡ false) × (slice_get (x ∷ xs) (suc k) ≡ Some z))
    later (inl h) = inl (ap suc h.0, h.1)
    later (inr h) = inr ((let no = h.0 in grind (arith, nat_tests)), h.1)

pub set-here : {X : Type 0} (xs : List X) (i : ℕ) (x y : X) → slice_get xs i ≡ Some x → slice_get (set xs i y) i ≡ Some y
set-here [] i x y e = absurd (cc)
set-here (z ∷ xs) zero x y e = refl
set-here (z ∷ xs) (suc i) x y e = set-here xs i x y e

pub set-other : {X : Type 0} (xs : List X) (i k : ℕ) (y z : X) → (k == i) ≡ false → slice_get xs k ≡ Some z → slice_get (set xs i y) k ≡ Some z
set-other [] i k y z other e = absurd (cc)
set-other (x ∷ xs) zero zero y z other e = absurd (grind (arith, nat_tests))
set-other (x ∷ xs) zero (suc k) y z other e = e
set-other (x ∷ xs) (suc i) zero y z other e = e
set-other (x ∷ xs) (suc i) (suc k) y z other e = set-other xs i k y z (grind (arith, nat_tests)) e

-- members of a list that goes on
pub in-front : {X : Type 0} (xs ys : List X) (n : ℕ) (x : X) → slice_get xs n ≡ Some x → slice_get (xs ++ ys) n ≡ Some x
in-front [] ys n x e = absurd (cc)
in-front (z ∷ xs) ys zero x e = e
in-front (z ∷ xs) ys (suc n) x e = in-front xs ys n x e

pub at-end : {X : Type 0} (xs : List X) (x : X) → slice_get (xs ++ x ∷ []) (length xs) ≡ Some x
at-end [] x = refl
at-end (z ∷ xs) x = at-end xs x

module _ {X Y : Type 0} where
  pub zip-widened : (R S : X → Y → Type 0) → ((x : X) (y : Y) → R x y → S x y) → (xs : List X) (ys : List Y) → AllZip R xs ys → AllZip S xs ys
  zip-widened R S wider [] [] h = tt
  zip-widened R S wider [] (y ∷ ys) h = absurd h
  zip-widened R S wider (x ∷ xs) [] h = absurd h
  zip-widened R S wider (x ∷ xs) (y ∷ ys) h = (wider x y h.0, zip-widened R S wider xs ys h.1)

  module _ (R : X → Y → Type 0) where
    pub zip-length : (xs : List X) (ys : List Y) → AllZip R xs ys → length xs ≡ length ys
    zip-length [] [] h = refl
    zip-length [] (y ∷ ys) h = absurd h
    zip-length (x ∷ xs) [] h = absurd h
    zip-length (x ∷ xs) (y ∷ ys) h = ap suc (zip-length xs ys h.1)

    pub zip-push : (xs : List X) (ys : List Y) (x : X) (y : Y) → AllZip R xs ys → R x y → AllZip R (xs ++ x ∷ []) (ys ++ y ∷ [])
    zip-push [] [] x y h r = (r, tt)
    zip-push [] (b ∷ ys) x y h r = absurd h
    zip-push (a ∷ xs) [] x y h r = absurd h
    zip-push (a ∷ xs) (b ∷ ys) x y h r = (h.0, zip-push xs ys x y h.1 r)

    -- the member behind these is taken out on both sides
    pub zip-out : (before rest : List X) (x : X) (ys : List Y) (y : Y) → AllZip R (before ++ x ∷ rest) ys → slice_get ys (length before) ≡ Some y
        → R x y × AllZip R (before ++ rest) (take (length before) ys ++ drop (length before + 1) ys)
    zip-out [] rest x [] y h e = absurd h
    zip-out [] rest x (b ∷ ys) y h e = (let same : b ≡ y = cc in subst (R x) same h.0, h.1)
    zip-out (a ∷ before) rest x [] y h e = absurd h
    zip-out (a ∷ before) rest x (b ∷ ys) y h e =
        let more = zip-out before rest x ys y h.1 e in
        let n : suc (length before + 1) ≡ suc (length before) + 1 = omega arith in
        (more.0, subst (λ k. AllZip R (a ∷ before ++ rest) (take (suc (length before)) (b ∷ ys) ++ drop k (b ∷ ys))) n (h.0, more.1))

module _ {X : Type 0} (R : X → X → Type 0) (same : (x : X) → R x x) where
  pub zip-same : (xs : List X) → AllZip R xs xs
  zip-same [] = tt
  zip-same (x ∷ xs) = (same x, zip-same xs)

  -- one member goes on, and the others stay
  pub zip-one : (xs : List X) (i : ℕ) (x y : X) → slice_get xs i ≡ Some x → R x y → AllZip R xs (set xs i y)
  zip-one [] i x y e r = tt
  zip-one (a ∷ xs) zero x y e r = (let is : a ≡ x = cc in subst (λ z. R z y) (sym is) r, zip-same xs)
  zip-one (a ∷ xs) (suc i) x y e r = (same a, zip-one xs i x y e r)

pub zip-then : {X : Type 0} (R : X → X → Type 0) → ((x y z : X) → R x y → R y z → R x z) → (xs ys zs : List X) → AllZip R xs ys → AllZip R ys zs → AllZip R xs zs
zip-then R join [] [] zs h k = k
zip-then R join [] (y ∷ ys) zs h k = absurd h
zip-then R join (x ∷ xs) [] zs h k = absurd h
zip-then R join (x ∷ xs) (y ∷ ys) [] h k = absurd k
zip-then R join (x ∷ xs) (y ∷ ys) (z ∷ zs) h k = (join x y z h.0 k.0, zip-then R join xs ys zs h.1 k.1)

-- lists of one length of which each place has this
pub zip-at : {X Y : Type 0} (R : X → Y → Type 0) (xs : List X) (ys : List Y) → length xs ≡ length ys → ((i : ℕ) (x : X) (y : Y) → slice_get xs i ≡ Some x → slice_get ys i ≡ Some y → R x y) → AllZip R xs ys
zip-at R [] [] e each = tt
zip-at R [] (y ∷ ys) e each = absurd (omega (arith, e))
zip-at R (x ∷ xs) [] e each = absurd (omega (arith, e))
zip-at R (x ∷ xs) (y ∷ ys) e each = (each 0 x y refl refl, zip-at R xs ys (omega (arith, e)) (λ i a b at here. each (suc i) a b at here))

module _ {X Y : Type 0} (R : X → Y → Type 0) where
  -- members at one place
  pub zip-read : (xs : List X) (ys : List Y) (i : ℕ) (x : X) (y : Y) → AllZip R xs ys → slice_get xs i ≡ Some x → slice_get ys i ≡ Some y → R x y
  zip-read [] ys i x y h e f = absurd (cc)
  zip-read (a ∷ xs) [] i x y h e f = absurd h
  zip-read (a ∷ xs) (b ∷ ys) zero x y h e f = let is : a ≡ x = cc in let its : b ≡ y = cc in subst (λ c. R c y) is (subst (R a) its h.0)
  zip-read (a ∷ xs) (b ∷ ys) (suc i) x y h e f = zip-read xs ys i x y h.1 e f

  -- both lists go on at one place
  pub zip-both : (xs : List X) (ys : List Y) (i : ℕ) (x : X) (y : Y) → AllZip R xs ys → R x y → AllZip R (set xs i x) (set ys i y)
  zip-both [] [] i x y h r = h
  zip-both [] (b ∷ ys) i x y h r = absurd h
  zip-both (a ∷ xs) [] i x y h r = absurd h
  zip-both (a ∷ xs) (b ∷ ys) zero x y h r = (r, h.1)
  zip-both (a ∷ xs) (b ∷ ys) (suc i) x y h r = (h.0, zip-both xs ys i x y h.1 r)

-- a member is replaced by one of which a function says the same
pub map-kept : {X Y : Type 0} (f : X → Y) (xs : List X) (i : ℕ) (x y : X) → slice_get xs i ≡ Some x → f y ≡ f x → map f (set xs i y) ≡ map f xs
map-kept f [] i x y e same = absurd (cc)
map-kept {X} {Y} f (z ∷ xs) zero x y e same = let is : z ≡ x = cc in ap (λ (u : Y). u ∷ map f xs) (same ∙ ap f (sym is))
map-kept {X} {Y} f (z ∷ xs) (suc i) x y e same = ap (λ (us : List Y). f z ∷ us) (map-kept f xs i x y e same)
