-- Members with numbers that differ, of which at most one has a given number.
use Rattle.std.proofs.Common.{◌≡◌, ◌≢◌, ℕ, Bool, true, inl, inr, List, [], ◌∷◌, ◌++◌, map, reverse, refl, sym, ap₂, subst, append-nil, rules}
use Rattle.std.specs.List.{flat_map, AllByRecursion, list_any}
use Rattle.std.proofs.lemmas.Bool.{false≢true}
use Rattle.std.proofs.lemmas.List.{reverse-append}
use Rattle.clk_sched.specs.Turns.{EachAfter}
use Rattle.clk_sched.specs.inside.Pulling.{AreApart}
use Rattle.clk_packet.specs.Lists.{In}
use Rattle.clk_sched.proofs.Lists.Members.{of-all, to-all, all-append}

pub all-map : {X Y : Type 0} (P : Y → Type 0) (f : X → Y) (xs : List X) → AllByRecursion (λ x. P (f x)) xs → AllByRecursion P (map f xs)
all-map P f [] h = tt
all-map P f (x ∷ xs) h = (h.0, all-map P f xs h.1)

pub apart-map : {X : Type 0} (f : X → ℕ) (xs : List X) → AreApart f xs → AreApart (λ (n : ℕ). n) (map f xs)
apart-map f [] h = tt
apart-map f (x ∷ xs) h = (all-map (λ n. n ≢ f x) f xs h.0, apart-map f xs h.1)

flat_map-none : {X Y : Type 0} (g : X → List Y) (xs : List X) → AllByRecursion (λ x. g x ≡ []) xs → flat_map g xs ≡ []
flat_map-none g [] h = refl
flat_map-none g (x ∷ xs) h = ap₂ (λ l k. l ++ k) h.0 (flat_map-none g xs h.1)

-- what members give where those with other numbers give nothing
pub only-one : {X Y : Type 0} (f : X → ℕ) (g : X → List Y) (xs : List X) (x : X) → AreApart f xs → In x xs → ((y : X) → In y xs → f y ≢ f x → g y ≡ []) → flat_map g xs ≡ g x
only-one f g [] x h m none = absurd m
only-one f g (y ∷ xs) x h (inl e) none = search (rules, flat_map-none, to-all, of-all, append-nil)
only-one f g (y ∷ xs) x h (inr m) none =
    ap₂ (λ l k. l ++ k) (none y (inl refl) (λ e. of-all (λ z. f z ≢ f y) x xs h.0 m (sym e))) (only-one f g xs x h.1 m (λ z k. none z (inr k)))

pub any-member : {X : Type 0} (test : X → Bool) (xs : List X) → list_any test xs ≡ true → (x : X) × In x xs × (test x ≡ true)
any-member test [] e = absurd (false≢true e)
any-member {X = X} test (x ∷ xs) e = search (rules, (any-member test xs))

pub all-reverse : {X : Type 0} (P : X → Type 0) (xs : List X) → AllByRecursion P xs → AllByRecursion P (reverse xs)
all-reverse P [] h = tt
all-reverse P (x ∷ xs) h = subst (AllByRecursion P) (sym (reverse-append (x ∷ []) xs)) (all-append P (reverse xs) (x ∷ []) (all-reverse P xs h.1) (h.0, tt))

-- what holds of each member after those before it holds after some
pub each-some : {X : Type 0} (Law : List X → X → Type 0) (earlier xs : List X) → EachAfter Law earlier xs → AllByRecursion (λ x. (e : List X) × Law e x) xs
each-some Law earlier [] h = tt
each-some Law earlier (x ∷ xs) h = ((earlier, h.0), each-some Law (x ∷ earlier) xs h.1)
