-- Senders that stand apart, in lists that are joined.
use Rattle.std.proofs.Common.{◌≡◌, ℕ, true, false, true≢false, List, [], ◌∷◌, ◌++◌, refl, sym, rules, arith}
use Rattle.std.proofs.lemmas.Grind.{common_steps}
use Rattle.std.proofs.lemmas.Bool.Decides.{nat_tests}
use Rattle.std.proofs.lemmas.Bool.{eqb-true, or_right}
use Rattle.clk_packet.specs.Lists.{stands_in, are_distinct}
use Rattle.clk_packet.proofs.Callers.Lists.{stands-right, distinct-parts, distinct-more}

-- The first of a list stands in it.
pub has-here : (s : ℕ) (senders : List ℕ) → stands_in s (s ∷ senders) ≡ true
has-here s senders = search rules

-- a sender of neither of two lists that were joined
pub none-left : (s : ℕ) (a b : List ℕ) → stands_in s (a ++ b) ≡ false → stands_in s a ≡ false
none-left s [] b e = refl
none-left s (t ∷ a) b e = grind (arith, common_steps, nat_tests, (none-left s a b))

none-joined : (s : ℕ) (a b : List ℕ) → stands_in s a ≡ false → stands_in s b ≡ false → stands_in s (a ++ b) ≡ false
none-joined s [] b e f = f
none-joined s (t ∷ a) b e f = grind (arith, common_steps, nat_tests, (none-joined s a b))

-- Of joined lists in which no sender stands twice, one has it.
pub not-both : (a b : List ℕ) (s : ℕ) → are_distinct (a ++ b) ≡ true → stands_in s a ≡ true → stands_in s b ≡ true → ⊥
not-both [] b s apart h k = true≢false (sym h)
not-both (t ∷ a) b s apart h k = grind (arith, common_steps, nat_tests, stands-right, eqb-true, (not-both a b s))

pub apart-parts : (a b : List ℕ) → are_distinct (a ++ b) ≡ true → (are_distinct a ≡ true) × (are_distinct b ≡ true)
apart-parts [] b h = (refl, h)
apart-parts (s ∷ a) b h = grind (arith, common_steps, nat_tests, distinct-more, none-left, (apart-parts a b))

pub apart-joined : (a b : List ℕ) → are_distinct a ≡ true → are_distinct b ≡ true → ((s : ℕ) → stands_in s a ≡ true → stands_in s b ≡ true → ⊥) → are_distinct (a ++ b) ≡ true
apart-joined [] b h k none = k
apart-joined (s ∷ a) b h k none = grind (arith, common_steps, nat_tests, distinct-parts, distinct-more, none-joined, has-here, or_right, (apart-joined a b))
