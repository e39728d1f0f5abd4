-- Members of lists, and lists that a test or a law goes over.
use Rattle.std.proofs.Common.{◌≡◌, ℕ, zero, suc, ◌<◌, Bool, true, false, List, [], ◌∷◌, ◌++◌, map, filter, length, slice_get, unwrap_or, is_some, Some, IsSome, inl, inr, refl, sym, ap, subst, rules}
use Rattle.std.specs.List.{AllByRecursion, list_any, flat_map}
use Rattle.std.proofs.lemmas.Bool.{false≢true}
use Rattle.std.proofs.lemmas.Option.{slice_get_within}
use Rattle.clk_packet.specs.Lists.{In}
pub use Rattle.clk_packet.proofs.Callers.Lists.{all-append}
use Rattle.clk_sched.specs.Turns.{EachAfter}

pub in-slice : {X : Type 0} (xs : List X) (i : ℕ) (x : X) → slice_get xs i ≡ Some x → In x xs
in-slice [] i x e = absurd (false≢true (ap is_some e))
in-slice (y ∷ xs) zero x e = inl (ap (λ o. unwrap_or o y) e)
in-slice (y ∷ xs) (suc i) x e = inr (in-slice xs i x e)

pub some-below : {X : Type 0} (xs : List X) (i : ℕ) → IsSome (slice_get xs i) → i < length xs
some-below {X = X} xs i h = search (rules, false≢true, slice_get_within)

pub of-all : {X : Type 0} (P : X → Type 0) (x : X) (xs : List X) → AllByRecursion P xs → In x xs → P x
of-all P x [] h m = absurd m
of-all P x (y ∷ ys) h (inl e) = subst P e h.0
of-all P x (y ∷ ys) h (inr m) = of-all P x ys h.1 m

pub to-all : {X : Type 0} (P : X → Type 0) (xs : List X) → ((x : X) → In x xs → P x) → AllByRecursion P xs
to-all P [] f = tt
to-all P (x ∷ xs) f = (f x (inl refl), to-all P xs (λ y m. f y (inr m)))

pub all-flat_map : {X Y : Type 0} (P : Y → Type 0) (f : X → List Y) (xs : List X) → ((x : X) → In x xs → AllByRecursion P (f x)) → AllByRecursion P (flat_map f xs)
all-flat_map P f [] h = tt
all-flat_map P f (x ∷ xs) h = all-append P (f x) (flat_map f xs) (h x (inl refl)) (all-flat_map P f xs (λ y m. h y (inr m)))

-- a member that passes a test, and the members that pass it
pub in-filter : {X : Type 0} (test : X → Bool) (x : X) (xs : List X) → In x (filter test xs) → In x xs × (test x ≡ true)
in-filter test x [] m = absurd m
in-filter test x (y ∷ ys) m = search (rules, (in-filter test x ys))

pub filter-in : {X : Type 0} (test : X → Bool) (x : X) (xs : List X) → test x ≡ true → In x xs → In x (filter test xs)
filter-in test x [] t m = absurd m
filter-in test x (y ∷ ys) t (inl s) = rw (subst (λ z. test z ≡ true) (sym s) t) (inl s)
filter-in test x (y ∷ ys) t (inr m) = search (rules, (filter-in test x ys t m))

pub any-in : {X : Type 0} (test : X → Bool) (x : X) (xs : List X) → test x ≡ true → In x xs → list_any test xs ≡ true
any-in test x [] t m = absurd m
any-in test x (y ∷ ys) t (inl s) = rw (subst (λ z. test z ≡ true) (sym s) t) refl
any-in test x (y ∷ ys) t (inr m) = search (rules, (any-in test x ys t m))

pub filter-all : {X : Type 0} (test : X → Bool) (xs : List X) → AllByRecursion (λ x. test x ≡ true) xs → filter test xs ≡ xs
filter-all test [] h = refl
filter-all test (x ∷ xs) h = rw (h.0, filter-all test xs h.1) refl

pub filter-none : {X : Type 0} (test : X → Bool) (xs : List X) → AllByRecursion (λ x. test x ≡ false) xs → filter test xs ≡ []
filter-none test [] h = refl
filter-none test (x ∷ xs) h = rw (h.0, filter-none test xs h.1) refl

-- what holds of each member after those before it
pub each-from_all : {X : Type 0} (P : X → Type 0) (earlier xs : List X) → AllByRecursion P xs → EachAfter (λ e x. P x) earlier xs
each-from_all P earlier [] h = tt
each-from_all P earlier (x ∷ xs) h = (h.0, each-from_all P (x ∷ earlier) xs h.1)

pub each-weaker : {X : Type 0} (P Q : List X → X → Type 0) → ((e : List X) (x : X) → P e x → Q e x) → (earlier xs : List X) → EachAfter P earlier xs → EachAfter Q earlier xs
each-weaker P Q f earlier [] h = tt
each-weaker P Q f earlier (x ∷ xs) h = (f earlier x h.0, each-weaker P Q f (x ∷ earlier) xs h.1)

pub each-both : {X : Type 0} (P Q : List X → X → Type 0) (earlier xs : List X) → EachAfter P earlier xs → EachAfter Q earlier xs → EachAfter (λ e x. P e x × Q e x) earlier xs
each-both P Q earlier [] h k = tt
each-both P Q earlier (x ∷ xs) h k = ((h.0, k.0), each-both P Q (x ∷ earlier) xs h.1 k.1)

pub each-mapped : {X Y : Type 0} (P : List Y → Y → Type 0) (f : X → Y) (earlier xs : List X) → EachAfter P (map f earlier) (map f xs)
    → EachAfter (λ e x. P (map f e) (f x)) earlier xs
each-mapped P f earlier [] h = tt
each-mapped P f earlier (x ∷ xs) h = (h.0, each-mapped P f (x ∷ earlier) xs h.1)

pub each-filtered : {X : Type 0} (P : List X → X → Type 0) (test : X → Bool) (earlier xs : List X) → EachAfter P (filter test earlier) (filter test xs)
    → EachAfter (λ e x. test x ≡ true → P (filter test e) x) earlier xs
each-filtered P test earlier [] h = tt
each-filtered {X = X} P test earlier (x ∷ xs) h = search (rules, false≢true, (each-filtered P test (x ∷ earlier) xs))

pub all-split : {X : Type 0} (P : X → Type 0) (xs ys : List X) → AllByRecursion P (xs ++ ys) → AllByRecursion P xs × AllByRecursion P ys
all-split P [] ys h = (tt, h)
all-split P (x ∷ xs) ys h = let rest = all-split P xs ys h.1 in ((h.0, rest.0), rest.1)

pub all-filter : {X : Type 0} (P : X → Type 0) (test : X → Bool) (xs : List X) → AllByRecursion P xs → AllByRecursion P (filter test xs)
all-filter P test xs h = to-all P (filter test xs) (λ x m. of-all P x xs h (in-filter test x xs m).0)

pub all-weaker : {X : Type 0} (P Q : X → Type 0) (xs : List X) → ((x : X) → P x → Q x) → AllByRecursion P xs → AllByRecursion Q xs
all-weaker P Q xs f h = to-all Q xs (λ x m. f x (of-all P x xs h m))
