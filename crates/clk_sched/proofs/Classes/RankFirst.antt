-- A row of which the first rank won: one walk moves the ranks that then stand before it, and subtracts the least pass.
use Rattle.std.proofs.Common.{◌≡◌, ℕ, zero, suc, ◌+◌, ◌<◌, ◌≤◌, if◌then◌else◌, Bool, true, false, List, [], ◌∷◌, ◌++◌, length, map, take, drop, set, get_or, refl, sym, ap, ◌∙◌, arith}
use Rattle.std.specs.List.{AllByRecursion}
use Rattle.clk_sched.specs.inside.Ranks.{Ranked, HasRisingPasses, is_up_to, put_rank, at_pass, after_win, first_pass, from_least, less}
use Rattle.clk_sched.proofs.Classes.RankLemmas.{first-least, put-rises}
use Rattle.clk_sched.proofs.Classes.RankLess.{taken_from}

-- the row once so many ranks after the first were moved and lowered
abbrev pub walked : ℕ → ℕ → List Ranked → List Ranked
walked least k row = map (less least) (take k (drop 1 row)) ++ drop k row

pub walk-length : (least k : ℕ) (row : List Ranked) → k < length row → length (walked least k row) ≡ length row
walk-length least k [] l = absurd (omega arith)
walk-length least zero (x ∷ row) l = refl
walk-length least (suc k) (x ∷ []) l = absurd (omega arith)
walk-length least (suc k) (x ∷ y ∷ row) l = ap suc (walk-length least k (y ∷ row) (omega arith))

pub walk-read : (least k : ℕ) (row : List Ranked) (d : Ranked) → suc k < length row → get_or (walked least k row) (suc k) d ≡ get_or (drop 1 row) k d
walk-read least k [] d l = absurd (omega arith)
walk-read least k (x ∷ []) d l = absurd (omega arith)
walk-read least zero (x ∷ y ∷ row) d l = refl
walk-read least (suc k) (x ∷ y ∷ row) d l = walk-read least k (y ∷ row) d (omega arith)

pub walk-next : (least k : ℕ) (row : List Ranked) (d : Ranked) → suc k < length row → set (walked least k row) k (less least (get_or (drop 1 row) k d)) ≡ walked least (suc k) row
walk-next least k [] d l = absurd (omega arith)
walk-next least k (x ∷ []) d l = absurd (omega arith)
walk-next least zero (x ∷ y ∷ row) d l = refl
walk-next least (suc k) (x ∷ y ∷ row) d l = ap (λ xs. less least y ∷ xs) (walk-next least k (y ∷ row) d (omega arith))

-- The ranks behind those that were moved are the same.
pub walk-behind : (least k : ℕ) (row : List Ranked) (r : Ranked) → k < length row → drop (suc k) (set (walked least k row) k r) ≡ drop k (drop 1 row)
walk-behind least k [] r l = absurd (omega arith)
walk-behind least zero (x ∷ row) r l = refl
walk-behind least (suc k) (x ∷ []) r l = absurd (omega arith)
walk-behind least (suc k) (x ∷ y ∷ row) r l = walk-behind least k (y ∷ row) r (omega arith)

-- the winner stands in its place, and those behind it were lowered too
pub walk-end : (least k : ℕ) (row : List Ranked) (r : Ranked) → k < length row → taken_from least (suc k) (set (walked least k row) k (less least r)) ≡ map (less least) (take k (drop 1 row) ++ r ∷ drop k (drop 1 row))
walk-end least k [] r l = absurd (omega arith)
walk-end least zero (x ∷ row) r l = refl
walk-end least (suc k) (x ∷ []) r l = absurd (omega arith)
walk-end least (suc k) (x ∷ y ∷ row) r l = ap (λ xs. less least y ∷ xs) (walk-end least k (y ∷ row) r (omega arith))

-- What holds of ranks of which one was put among the others holds of that one and of the others.
put-members : (P : Ranked → Type 0) (r : Ranked) (others : List Ranked) → AllByRecursion P (put_rank r others) → P r × AllByRecursion P others
put-members P r [] h = (h.0, tt)
put-members P r (o ∷ others) h = by_test (is_up_to r o) h (λ k. put-members P r others k)
  where
    by_test : (b : Bool) → AllByRecursion P (if b then r ∷ o ∷ others else o ∷ put_rank r others) → (AllByRecursion P (put_rank r others) → P r × AllByRecursion P others) → P r × AllByRecursion P (o ∷ others)
    by_test true k rest = (k.0, k.1)
    by_test false k rest = let both = rest k.1 in (both.0, (k.0, both.1))

-- The first pass, once the winner is put among the others, is no greater than any of them.
pub least-first : (r : Ranked) (row : List Ranked) → HasRisingPasses row → (first_pass (put_rank r (drop 1 row)) ≤ r.pass) × AllByRecursion (λ (o : Ranked). first_pass (put_rank r (drop 1 row)) ≤ o.pass) (drop 1 row)
least-first r [] h = (omega arith, tt)
least-first r (x ∷ row) h = put-members (λ (o : Ranked). first_pass (put_rank r row) ≤ o.pass) r row (first-least (put_rank r row) (put-rises r row h.1))

pub won-first : (stride : ℕ) (row : List Ranked) (r d : Ranked) → 0 < length row → r ≡ at_pass stride (get_or row 0 d) → after_win 0 stride 0 row ≡ put_rank r (drop 1 row)
won-first stride [] r d l e = absurd (omega arith)
won-first stride (x ∷ row) r d l e = let same : 0 + stride ≡ stride = omega arith in ap (λ n. put_rank (at_pass n x) row) same ∙ ap (λ (y : Ranked). put_rank y row) (sym e)

-- the row after the walk
pub walk-won : (least stride k : ℕ) (row : List Ranked) (r d : Ranked) → k < length row → least ≡ first_pass (put_rank r (drop 1 row)) → r ≡ at_pass stride (get_or row 0 d)
    → put_rank r (drop 1 row) ≡ take k (drop 1 row) ++ r ∷ drop k (drop 1 row) → taken_from least (suc k) (set (walked least k row) k (less least r)) ≡ from_least (after_win 0 stride 0 row)
walk-won least stride k row r d l first e put =
    walk-end least k row r l ∙ ap (map (less least)) (sym put) ∙ ap (λ n. map (less n) (put_rank r (drop 1 row))) first ∙ ap from_least (sym (won-first stride row r d (omega (arith, l)) e))
