-- Lists whose members have keys that rise: a change of the member of one key at its place is a change of all that changes that one alone.
use Rattle.std.proofs.Common.{◌≡◌, ℕ, ◌<◌, ◌==◌, zero, suc, false, List, [], ◌∷◌, map, set, Some, slice_get, refl, sym, ap, ap₂, subst, arith, rules}
use Rattle.std.specs.List.{AllByRecursion, list_any}
use Rattle.std.proofs.lemmas.Bool.Decides.{nat_tests}
use Rattle.clk_packet.specs.Lists.{AreRising}

-- what changes the member of one key alone
abbrev pub ChangesOnly : {X : Type 0} → (X → ℕ) → ℕ → (X → X) → Type 0
ChangesOnly {X} key k f = (x : X) → (k == key x) ≡ false → f x ≡ x

-- where no member has the key, nothing changes
pub others-stay : {X : Type 0} (key : X → ℕ) (k : ℕ) (f : X → X) (xs : List X) → ChangesOnly key k f → list_any (λ n. n == k) (map key xs) ≡ false → xs ≡ map f xs
others-stay key k f [] its none = refl
others-stay {X} key k f (x ∷ xs) its none = search (rules, (others-stay key k f xs its))

-- nor where all members have greater keys
above-stay : {X : Type 0} (key : X → ℕ) (k : ℕ) (f : X → X) (xs : List X) → ChangesOnly key k f → AllByRecursion (λ m. k < m) (map key xs) → xs ≡ map f xs
above-stay key k f [] its above = refl
above-stay {X} key k f (x ∷ xs) its above = search (rules, (above-stay key k f xs its above.1))

-- what holds of each key holds of that of the member at a place
key-at : {X : Type 0} (key : X → ℕ) (P : ℕ → Type 0) (xs : List X) (i : ℕ) (x : X) → AllByRecursion P (map key xs) → slice_get xs i ≡ Some x → P (key x)
key-at key P [] i x all e = absurd (cc)
key-at {X} key P (y ∷ xs) zero x all e = let same : y ≡ x = cc in subst (λ (z : X). P (key z)) same all.0
key-at key P (y ∷ xs) (suc i) x all e = key-at key P xs i x all.1 e

-- changing the member at its place is changing those of its key
pub changed-at : {X : Type 0} (key : X → ℕ) (f : X → X) (xs : List X) (i : ℕ) (x : X) → AreRising (map key xs) → ChangesOnly key (key x) f → slice_get xs i ≡ Some x → set xs i (f x) ≡ map f xs
changed-at key f [] i x rising its e = absurd (cc)
changed-at {X} key f (y ∷ xs) zero x rising its e =
    let same : y ≡ x = cc in
    ap₂ (λ (z : X) zs. z ∷ zs) (ap f (sym same)) (above-stay key (key x) f xs its (subst (λ (z : X). AllByRecursion (λ m. key z < m) (map key xs)) same rising.0))
changed-at {X} key f (y ∷ xs) (suc i) x rising its e =
    let below : key y < key x = key-at key (λ m. key y < m) xs i x rising.0 e in
    let other : (key x == key y) ≡ false = grind (arith, nat_tests) in
    ap₂ (λ (z : X) zs. z ∷ zs) (sym (its y other)) (changed-at key f xs i x rising.1 its e)
