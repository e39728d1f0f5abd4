-- Moments of worked logs that no run's pulls have.
use Rattle.std.proofs.Common.{◌≡◌, ℕ, ◌+◌, ◌*◌, ◌≤◌, List, [], ◌∷◌, ◌++◌, length, map, drop, zero, suc, get_or, refl, sym, ap, ◌∙◌, arith}
use Rattle.std.specs.List.{range_with_len}
use Rattle.std.proofs.lemmas.List.{map-append, drop_at}
use Rattle.clk_sched.specs.declared.visit.Visit.{Visit}
use Rattle.clk_sched.specs.Log.{pulls, moment_of}
use Rattle.clk_sched.specs.Tree.{Tree}
use Rattle.clk_drain.specs.Moments.{HasMoments}
use Rattle.clk_drain.specs.inside.Threads.{steps}

-- The moments of a run with a pull each three ticks and two at most, of which so many were made.
abbrev AreMoments : List ℕ → ℕ → ℕ → Type 0
AreMoments moments made closing = moments ≡ steps 3 made ++ range_with_len (made * 3 + 1) closing

pub moments-are : (tree : Tree) (log : List Visit) → (h : HasMoments 3 2 tree log) → AreMoments (map moment_of (pulls log)) (length h.running) (length h.closing)
moments-are tree log h = ap (map moment_of) h.pulls_are ∙ map-append moment_of h.running h.closing ∙ (λ i. h.each_step i ++ h.each_tick i)

abbrev member : ℕ → List ℕ → ℕ
member i moments = get_or moments i 0

pub too-many : (made closing : ℕ) → made ≤ 2 → AreMoments (3 ∷ 6 ∷ 9 ∷ []) made closing → ⊥
too-many zero zero within e = let x = ap (member 0) e in omega (arith, x)
too-many zero (suc closing) within e = let x = ap (member 0) e in omega (arith, x)
too-many (suc zero) zero within e = let x = ap (member 1) e in omega (arith, x)
too-many (suc zero) (suc closing) within e = let x = ap (member 1) e in omega (arith, x)
too-many (suc (suc zero)) zero within e = let x = ap (member 2) e in omega (arith, x)
too-many (suc (suc zero)) (suc closing) within e = let x = ap (member 2) e in omega (arith, x)
too-many (suc (suc (suc made))) closing within e = omega (arith, within)

pub skipped : (made closing : ℕ) → made ≤ 2 → AreMoments (3 ∷ 9 ∷ []) made closing → ⊥
skipped zero zero within e = let x = ap (member 0) e in omega (arith, x)
skipped zero (suc closing) within e = let x = ap (member 0) e in omega (arith, x)
skipped (suc zero) zero within e = let x = ap (member 1) e in omega (arith, x)
skipped (suc zero) (suc closing) within e = let x = ap (member 1) e in omega (arith, x)
skipped (suc (suc zero)) closing within e = let x = ap (member 1) e in omega (arith, x)
skipped (suc (suc (suc made))) closing within e = omega (arith, within)

pub late : (made closing : ℕ) → made ≤ 2 → AreMoments (3 ∷ 5 ∷ []) made closing → ⊥
late zero zero within e = let x = ap (member 0) e in omega (arith, x)
late zero (suc closing) within e = let x = ap (member 0) e in omega (arith, x)
late (suc zero) zero within e = let x = ap (member 1) e in omega (arith, x)
late (suc zero) (suc closing) within e = let x = ap (member 1) e in omega (arith, x)
late (suc (suc zero)) closing within e = let x = ap (member 1) e in omega (arith, x)
late (suc (suc (suc made))) closing within e = omega (arith, within)

pub pauses : (made closing : ℕ) → made ≤ 2 → AreMoments (3 ∷ 4 ∷ 6 ∷ []) made closing → ⊥
pauses zero zero within e = let x = ap (member 0) e in omega (arith, x)
pauses zero (suc closing) within e = let x = ap (member 0) e in omega (arith, x)
pauses (suc zero) zero within e = let x = ap (member 1) e in omega (arith, x)
pauses (suc zero) (suc zero) within e = let x = ap (member 2) e in omega (arith, x)
pauses (suc zero) (suc (suc closing)) within e = let x = ap (member 2) e in omega (arith, x)
pauses (suc (suc zero)) closing within e = let x = ap (member 1) e in omega (arith, x)
pauses (suc (suc (suc made))) closing within e = omega (arith, within)

-- of three pulls one tick apart, the first is the only one that was made while producers ran
pub one-running : (made closing : ℕ) → made ≤ 2 → AreMoments (3 ∷ 4 ∷ 5 ∷ []) made closing → made ≡ 1
one-running zero zero within e = let x = ap (member 0) e in absurd (omega (arith, x))
one-running zero (suc closing) within e = let x = ap (member 0) e in absurd (omega (arith, x))
one-running (suc zero) closing within e = refl
one-running (suc (suc zero)) closing within e = let x = ap (member 1) e in absurd (omega (arith, x))
one-running (suc (suc (suc made))) closing within e = absurd (omega (arith, within))

-- The pulls of the closing are those behind the running ones.
pub closing-is : (tree : Tree) (log : List Visit) (made : ℕ) → (h : HasMoments 3 2 tree log) → length h.running ≡ made → h.closing ≡ drop made (pulls log)
closing-is tree log made h count = sym (drop_at h.running h.closing made count) ∙ ap (drop made) (sym h.pulls_are)
