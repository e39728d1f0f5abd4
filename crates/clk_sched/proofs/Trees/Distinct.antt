-- Queues that are distinct, in parts and as they are marked one after another.
use Rattle.std.proofs.Common.{◌≡◌, ℕ, ◌<◌, ◌||◌, Bool, true, false, not, List, [], ◌∷◌, ◌++◌, length, get_or, set, refl, sym, ◌∙◌, rules}
use Rattle.std.proofs.lemmas.Bool.{false≢true}
use Rattle.std.proofs.lemmas.List.{get_or-set_other}
use Rattle.std.proofs.lemmas.Grind.{get_or-set_at}
use Rattle.clk_packet.specs.Lists.{stands_in, are_distinct}
use Rattle.clk_sched.specs.inside.Marks.{Marks, AreMarked}
use Rattle.clk_sched.proofs.Trees.TreeLemmas.{stands_in-append}

pub or-neither : (a b : Bool) → (a || b) ≡ false → (a ≡ false) × (b ≡ false)
or-neither a b e = search rules

pub stands-neither : (q : ℕ) (ps rs : List ℕ) → stands_in q (ps ++ rs) ≡ false → (stands_in q ps ≡ false) × (stands_in q rs ≡ false)
stands-neither q ps rs e = or-neither (stands_in q ps) (stands_in q rs) (sym (stands_in-append q ps rs) ∙ e)

-- of distinct queues, one that stands in the first part stands in no other
pub distinct-parts : (q : ℕ) (ps rs : List ℕ) → are_distinct (ps ++ rs) ≡ true → (are_distinct ps ≡ true) × (are_distinct rs ≡ true) × (stands_in q ps ≡ true → stands_in q rs ≡ false)
distinct-parts q [] rs e = (refl, e, λ s. absurd (false≢true s))
distinct-parts q (p ∷ ps) rs e = search (rules, stands-neither, false≢true, (distinct-parts q ps rs))

-- where some are told not to be distinct, so they are with more
pub marked-less : (told : Bool) (marks : List Bool) (ps rs : List ℕ) → told ≡ false → AreMarked told marks ps → AreMarked told marks (ps ++ rs)
marked-less told marks ps rs e h = record { distinct = e ∙ sym (by_test (are_distinct (ps ++ rs)) refl); marked = λ t. absurd (false≢true (sym e ∙ t)) }
  where
    by_test : (b : Bool) → are_distinct (ps ++ rs) ≡ b → b ≡ false
    by_test true f = sym (distinct-parts 0 ps rs f).0 ∙ sym h.distinct ∙ e
    by_test false f = refl

-- one queue after others that are distinct
distinct-last : (qs : List ℕ) (q : ℕ) → are_distinct qs ≡ true → are_distinct (qs ++ q ∷ []) ≡ not (stands_in q qs)
distinct-last [] q e = refl
distinct-last (p ∷ qs) q e = search (rules, stands_in-append, false≢true, (distinct-last qs q))

pub marks-queue : (marks : List Bool) (qs : List ℕ) (q : ℕ) → length marks ≡ 65536 → q < 65536 → are_distinct qs ≡ true → Marks marks qs → AreMarked (not (get_or marks q false)) (set marks q true) (qs ++ q ∷ [])
marks-queue marks qs q long l distinct h = search (rules, distinct-last, stands_in-append, get_or-set_at, get_or-set_other, false≢true)
