-- Packets that were taken so far, and one more.
use Rattle.std.proofs.Common.{◌≡◌, ℕ, ◌+◌, ◌<◌, ◌≤◌, ◌++◌, ◌∷◌, [], zero, suc, List, length, take, drop, set, refl, sym, ◌∙◌, subst, arith}
use Rattle.std.specs.List.{AllByRecursion}
use Rattle.std.proofs.lemmas.Grind.{drop_more_same}
use Rattle.std.proofs.lemmas.List.{length-set, drop-set-lt, take_more_set, length-take-le}
use Rattle.clk_router.proofs.Callers.Chains.{chain-more}
use Rattle.clk_router.specs.Chains.{IsChain}
use Rattle.clk_live.specs.declared.taking.Taken.{Taken}
use Rattle.clk_live.specs.State.{Seen}
use Rattle.clk_live.specs.Taking.{TakesOne, AreTaken}

pub taken-more : (old mid new : Seen) (before filled : List Taken) (count : ℕ) (t : Taken) → count < length filled → AreTaken old mid before filled count → TakesOne mid t new → AreTaken old new before (set filled count t) (count + 1)
taken-more old mid new before filled count t low so_far one = record {
  within = omega (arith, low, so_far.many);
  many = length-set filled count t ∙ so_far.many;
  took = subst (λ ts. IsChain TakesOne old ts new) (sym (take_more_set filled count t low)) (chain-more TakesOne old mid new (take count filled) t so_far.took one);
  others = drop-set-lt (count + 1) filled count t (omega arith) ∙ drop_more_same filled before count so_far.others;
}

pub taken-none : (old : Seen) (before : List Taken) → AreTaken old old before before 0
taken-none old before = record { within = omega arith; many = refl; took = refl; others = refl }

-- what holds of each holds of each but the first ones, and of one more
all-more : (P : Taken → Type 0) (ts : List Taken) (t : Taken) → AllByRecursion P ts → P t → AllByRecursion P (ts ++ t ∷ [])
all-more P [] t h p = (p, tt)
all-more P (u ∷ ts) t h p = (h.0, all-more P ts t h.1 p)

drop-more : (n : ℕ) (ts : List Taken) (t : Taken) → n ≤ length ts → drop n (ts ++ t ∷ []) ≡ drop n ts ++ t ∷ []
drop-more zero ts t low = refl
drop-more (suc n) [] t low = absurd (omega (arith, low))
drop-more (suc n) (u ∷ ts) t low = drop-more n ts t (omega (arith, low))

pub all-taken : (P : Taken → Type 0) (filled : List Taken) (count : ℕ) (t : Taken) → count < length filled → AllByRecursion P (take count filled) → P t → AllByRecursion P (take (count + 1) (set filled count t))
all-taken P filled count t low h p = subst (AllByRecursion P) (sym (take_more_set filled count t low)) (all-more P (take count filled) t h p)

pub all-from : (P : Taken → Type 0) (from : ℕ) (filled : List Taken) (count : ℕ) (t : Taken) → from ≤ count → count < length filled → AllByRecursion P (drop from (take count filled)) → P t → AllByRecursion P (drop from (take (count + 1) (set filled count t)))
all-from P from filled count t after low h p =
    let many = length-take-le count filled (omega (arith, low)) in
    subst (λ ts. AllByRecursion P (drop from ts)) (sym (take_more_set filled count t low))
    (subst (AllByRecursion P) (sym (drop-more from (take count filled) t (omega (arith, many, after)))) (all-more P (drop from (take count filled)) t h p))

pub none-from : (P : Taken → Type 0) (filled : List Taken) (from : ℕ) → from ≤ length filled → AllByRecursion P (drop from (take from filled))
none-from P filled from low = subst (AllByRecursion P) (sym (none (take from filled) from (length-take-le from filled low))) tt
  where
    none : (ts : List Taken) (n : ℕ) → length ts ≡ n → drop n ts ≡ []
    none [] zero e = refl
    none [] (suc n) e = absurd (omega (arith, e))
    none (t ∷ ts) zero e = absurd (omega (arith, e))
    none (t ∷ ts) (suc n) e = none ts n (omega (arith, e))
