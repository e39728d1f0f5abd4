-- The visits of a turn to each input: none or one, and how many there are in all.
use Rattle.std.proofs.Common.{◌≡◌, ◌≢◌, ◌⊎◌, ℕ, zero, suc, ◌+◌, ◌<◌, ◌≤◌, ◌==◌, if◌then◌else◌, Bool, true, false, inl, inr, List, [], ◌∷◌, ◌++◌, refl, sym, ap, ap₂, ◌∙◌, subst, eq-or-lt_of_le, arith, rules}
use Rattle.std.specs.List.{AllByRecursion}
use Rattle.std.proofs.lemmas.Bool.{false≢true}
use Rattle.std.proofs.lemmas.Bool.Decides.{nat_tests}
use Rattle.clk_sched.specs.declared.visit.Visit.{Visit}
use Rattle.clk_sched.specs.inside.Pulling.{AreApart, input_of}
use Rattle.clk_sched.proofs.Lists.Numbers.{equal, differs}

abbrev pub Misses : ℕ → List Visit → Type 0
Misses i visits = AllByRecursion (λ (v : Visit). v.input ≢ i) visits

-- one of the visits, and no other, goes to this input
pub record IsAt (i : ℕ) (visits : List Visit) : Type 0 where
  pub before : List Visit
  pub visit : Visit
  pub after : List Visit
  pub are : visits ≡ before ++ visit ∷ after
  pub here : visit.input ≡ i
  pub misses_before : Misses i before
  pub misses_after : Misses i after

pub at-input : (i : ℕ) (visits : List Visit) → AreApart input_of visits → Misses i visits ⊎ IsAt i visits
at-input i [] a = inl tt
at-input i (v ∷ visits) a = by_input (v.input == i) refl (at-input i visits a.1)
  where
    by_input : (b : Bool) → (v.input == i) ≡ b → Misses i visits ⊎ IsAt i visits → Misses i (v ∷ visits) ⊎ IsAt i (v ∷ visits)
    by_input true e rest =
        let here : v.input ≡ i = grind (arith, nat_tests) in
        inr (record { before = []; visit = v; after = visits; are = refl; here = here; misses_before = tt; misses_after = subst (λ n. Misses n visits) here a.0 })
    by_input false e (inl m) = inl ((let d : v.input ≢ i = (λ h. false≢true (sym e ∙ equal v.input i h)) in d), m)
    by_input false e (inr at) =
        inr (record {
          before = v ∷ at.before;
          visit = at.visit;
          after = at.after;
          are = ap (λ l. v ∷ l) at.are;
          here = at.here;
          misses_before = ((let d : v.input ≢ i = (λ h. false≢true (sym e ∙ equal v.input i h)) in d), at.misses_before);
          misses_after = at.misses_after;
        })

abbrev pub one_if : Bool → ℕ
one_if b = if b then 1 else 0

-- how many visits pass a test, in all and of those to an input
abbrev pub count : (Visit → Bool) → List Visit → ℕ
count test [] = 0
count test (v ∷ visits) = one_if (test v) + count test visits

abbrev pub hits : (Visit → Bool) → ℕ → List Visit → ℕ
hits test i [] = 0
hits test i (v ∷ visits) = (if v.input == i then one_if (test v) else 0) + hits test i visits

pub hits-misses : (test : Visit → Bool) (i : ℕ) (visits : List Visit) → Misses i visits → hits test i visits ≡ 0
hits-misses test i [] m = refl
hits-misses test i (v ∷ visits) m = ap₂ (λ b n. (if b then one_if (test v) else 0) + n) (differs v.input i m.0) (hits-misses test i visits m.1)

hits-append : (test : Visit → Bool) (i : ℕ) (us vs : List Visit) → hits test i (us ++ vs) ≡ hits test i us + hits test i vs
hits-append test i [] vs = omega arith
hits-append test i (u ∷ us) vs = let rest = hits-append test i us vs in omega (arith, rest)

pub hits-at : (test : Visit → Bool) (i : ℕ) (visits : List Visit) (at : IsAt i visits) → hits test i visits ≡ one_if (test at.visit)
hits-at test i visits at = search (rules, hits-append, hits-misses, equal)

-- no more visits to an input than in all
pub hits-at_most : (test : Visit → Bool) (i : ℕ) (visits : List Visit) → hits test i visits ≤ count test visits
hits-at_most test i [] = omega arith
hits-at_most test i (v ∷ visits) = search (rules, (hits-at_most test i visits))

-- the sum over so many inputs from one on
abbrev pub sum_from : (ℕ → ℕ) → ℕ → ℕ → ℕ
sum_from f a zero = 0
sum_from f a (suc n) = f a + sum_from f (suc a) n

sum-add : (f g : ℕ → ℕ) (a n : ℕ) → sum_from (λ j. f j + g j) a n ≡ sum_from f a n + sum_from g a n
sum-add f g a zero = refl
sum-add f g a (suc n) = let rest = sum-add f g (suc a) n in omega (arith, rest)

sum-none : (i x a n : ℕ) → i < a → sum_from (λ j. if i == j then x else 0) a n ≡ 0
sum-none i x a zero l = refl
sum-none i x a (suc n) l = ap₂ (λ b m. (if b then x else 0) + m) (differs i a (λ e. omega (arith, e, l))) (sum-none i x (suc a) n (omega arith))

sum-one : (i x a n : ℕ) → a ≤ i → i < a + n → sum_from (λ j. if i == j then x else 0) a n ≡ x
sum-one i x a zero l m = absurd (omega arith)
sum-one i x a (suc n) l m = by_order (eq-or-lt_of_le l) (λ k. sum-one i x (suc a) n k (omega arith))
  where
    by_order : (a ≡ i) ⊎ (a < i) → (a < i → sum_from (λ j. if i == j then x else 0) (suc a) n ≡ x) → (if i == a then x else 0) + sum_from (λ j. if i == j then x else 0) (suc a) n ≡ x
    by_order h rest = search (rules, equal, sum-none, differs)

sum-zero : (a n : ℕ) → sum_from (λ j. 0) a n ≡ 0
sum-zero a zero = refl
sum-zero a (suc n) = let rest = sum-zero (suc a) n in omega (arith, rest)

-- the visits to each of the inputs together are all
pub hits-all : (test : Visit → Bool) (w : ℕ) (visits : List Visit) → AllByRecursion (λ (v : Visit). v.input < w) visits → sum_from (λ j. hits test j visits) 0 w ≡ count test visits
hits-all test w [] h = sum-zero 0 w
hits-all test w (v ∷ visits) h =
    sum-add (λ j. if v.input == j then one_if (test v) else 0) (λ j. hits test j visits) 0 w
    ∙ ap₂ (λ m n. m + n) (sum-one v.input (one_if (test v)) 0 w (omega arith) (let l = h.0 in omega (arith, l))) (hits-all test w visits h.1)

sum-at_most : (f : ℕ → ℕ) (a n : ℕ) → ((j : ℕ) → f j ≤ 1) → sum_from f a n ≤ n
sum-at_most f a zero h = omega arith
sum-at_most f a (suc n) h = let here = h a in let rest = sum-at_most f (suc a) n h in omega (arith, here, rest)

-- where none is above 1, and the sum is as many as there are, each is 1
pub each-one : (f : ℕ → ℕ) (a n : ℕ) → ((j : ℕ) → f j ≤ 1) → n ≤ sum_from f a n → (j : ℕ) → a ≤ j → j < a + n → f j ≡ 1
each-one f a zero h l j low high = absurd (omega arith)
each-one f a (suc n) h l j low high = by_order (eq-or-lt_of_le low) (λ m k. each-one f (suc a) n h m j k (omega arith))
  where
    most : sum_from f (suc a) n ≤ n
    most = sum-at_most f (suc a) n h

    by_order : (a ≡ j) ⊎ (a < j) → (n ≤ sum_from f (suc a) n → a < j → f j ≡ 1) → f j ≡ 1
    by_order e rest = search (rules, most)
