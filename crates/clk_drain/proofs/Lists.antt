-- What holds of the members of lists, and which members lists have.
use Rattle.std.proofs.Common.{◌≡◌, ℕ, zero, suc, inl, inr, ◌⊎◌, ⊎_elim, true, List, [], ◌∷◌, ◌++◌, map, Some, slice_get, rules}
use Rattle.std.specs.List.{AllByRecursion}
use Rattle.std.proofs.lemmas.Bool.{or_right}
use Rattle.clk_packet.specs.Lists.{In, stands_in}
use Rattle.clk_sched.proofs.Callers.Lists.{all-weaker}

pub all-unmap : {X Y : Type 0} (P : Y → Type 0) (f : X → Y) (xs : List X) → AllByRecursion P (map f xs) → AllByRecursion (λ x. P (f x)) xs
all-unmap P f [] h = tt
all-unmap P f (x ∷ xs) h = (h.0, all-unmap P f xs h.1)

pub all-there : {X : Type 0} (P : X → Type 0) (xs : List X) (n : ℕ) (x : X) → AllByRecursion P xs → slice_get xs n ≡ Some x → P x
all-there P [] n x h at = absurd (cc)
all-there P (y ∷ xs) zero x h at = search rules
all-there P (y ∷ xs) (suc n) x h at = all-there P xs n x h.1 at

-- each member's name is among all names
pub all-named : {X : Type 0} (name : X → ℕ) (xs : List X) → AllByRecursion (λ x. stands_in (name x) (map name xs) ≡ true) xs
all-named name [] = tt
all-named {X} name (x ∷ xs) = search (rules, all-weaker, or_right, (all-named name xs))

-- The members of joined lists are those of both.
pub in-left : {X : Type 0} (x : X) (a b : List X) → In x a → In x (a ++ b)
in-left x [] b among = absurd among
in-left x (y ∷ a) b (inl is) = inl is
in-left x (y ∷ a) b (inr later) = inr (in-left x a b later)

pub in-right : {X : Type 0} (x : X) (a b : List X) → In x b → In x (a ++ b)
in-right x [] b among = among
in-right x (y ∷ a) b among = inr (in-right x a b among)

pub in-either : {X : Type 0} (x : X) (a b : List X) → In x (a ++ b) → In x a ⊎ In x b
in-either x [] b among = inr among
in-either x (y ∷ a) b (inl is) = inl (inl is)
in-either x (y ∷ a) b (inr later) = ⊎_elim (λ h. inl (inr h)) (λ h. inr h) (in-either x a b later)
