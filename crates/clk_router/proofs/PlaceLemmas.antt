-- Where a number stands among numbers that rise.
use Rattle.std.proofs.Common.{◌≡◌, ◌≢◌, ℕ, ◌+◌, ◌<◌, ◌≤◌, ◌^◌, ◌==◌, nat_lt, zero, suc, Bool, true, false, List, [], ◌∷◌, length, get_or, slice_get, Option, Some, None, Result, Ok, Err, IfSome, refl, sym, ap, ◌∙◌, arith, rules}
use Rattle.std.specs.Result.{result_ok}
use Rattle.std.specs.List.{AllByRecursion, list_any}
use Rattle.std.specs.List.Sorted.{IsSearchInRange, IsBinarySearchResult, IsNonDecreasingBy}
use Rattle.std.specs.Ordering.{nat_cmp, ordering_index}
use Rattle.std.proofs.lemmas.Cmp.{ranked}
use Rattle.std.proofs.lemmas.List.Sorted.{IsNonDecreasingBy-from_default}
use Rattle.std.proofs.lemmas.Option.{slice_get-get_or}
use Rattle.std.proofs.lemmas.Bool.Decides.{nat_tests}
use Rattle.clk_packet.specs.Lists.{AreRising}

below-at : (n : ℕ) (numbers : List ℕ) (j : ℕ) → AllByRecursion (λ m. n < m) numbers → j < length numbers → n ≤ get_or numbers j 0
below-at n [] j above within = absurd (omega arith)
below-at n (s ∷ numbers) zero above within = let first = above.0 in omega arith
below-at n (s ∷ numbers) (suc j) above within = below-at n numbers j above.1 (omega arith)

numbers-rise : (numbers : List ℕ) (i j : ℕ) → AreRising numbers → i ≤ j → j < length numbers → get_or numbers i 0 ≤ get_or numbers j 0
numbers-rise [] i j rising le within = absurd (omega arith)
numbers-rise (s ∷ numbers) zero zero rising le within = omega arith
numbers-rise (s ∷ numbers) zero (suc j) rising le within = below-at s numbers j rising.0 (omega arith)
numbers-rise (s ∷ numbers) (suc i) zero rising le within = absurd (omega arith)
numbers-rise (s ∷ numbers) (suc i) (suc j) rising le within = numbers-rise numbers i j rising.1 (omega arith) (omega arith)

none-has : (numbers : List ℕ) (n : ℕ) → ((k : ℕ) → k < length numbers → get_or numbers k 0 ≢ n) → list_any (λ s. s == n) numbers ≡ false
none-has [] n differ = refl
none-has (s ∷ numbers) n differ =
    let first = differ 0 (omega arith) in
    let other : (s == n) ≡ false = grind (arith, nat_tests) in
    rw other (none-has numbers n (λ k within. differ (suc k) (omega arith)))

-- numbers that rise are no less than their places
place-above : (first : ℕ) (numbers : List ℕ) (n place : ℕ) → AllByRecursion (λ m. first < m) numbers → AreRising numbers → slice_get numbers place ≡ Some n → first + place < n
place-above first [] n place above rising is = absurd (cc)
place-above first (s ∷ numbers) n zero above rising is = search rules
place-above first (s ∷ numbers) n (suc place) above rising is = search (rules, (place-above s numbers n place rising.0 rising.1 is))

pub place-low : (numbers : List ℕ) (n place : ℕ) → AreRising numbers → slice_get numbers place ≡ Some n → place ≤ n
place-low [] n place rising is = absurd (cc)
place-low (s ∷ numbers) n zero rising is = omega arith
place-low (s ∷ numbers) n (suc place) rising is = let rest = place-above s numbers n place rising.0 rising.1 is in omega (arith, rest)

-- numbers that rise are no more than the range that they are in
pub rising-few : (numbers : List ℕ) → AreRising numbers → ((place : ℕ) → get_or numbers place 0 < 2 ^ 16) → length numbers ≤ 2 ^ 16
rising-few [] rising small = omega arith
rising-few (s ∷ numbers) rising small =
    let last = small (length numbers) in
    let low = place-low (s ∷ numbers) (get_or (s ∷ numbers) (length numbers) 0) (length numbers) rising (slice_get-get_or (s ∷ numbers) (length numbers) 0 (omega arith)) in
    omega (arith, last, low)

-- what a binary search says
pub record IsSearched (numbers : List ℕ) (n : ℕ) (o : Option ℕ) : Type 0 where
  pub found : IfSome o (λ place. slice_get numbers place ≡ Some n)
  pub missing : o ≡ None → list_any (λ s. s == n) numbers ≡ false

module _ (numbers : List ℕ) (n : ℕ) (rising : AreRising numbers) where
  comparisons-rise : IsNonDecreasingBy (λ (s : ℕ). ordering_index (nat_cmp s n)) numbers
  comparisons-rise = IsNonDecreasingBy-from_default (λ (s : ℕ). ordering_index (nat_cmp s n)) numbers 0 (λ i j le within.
      let rise = numbers-rise numbers i j rising le within in
      grind (arith, nat_tests))

  pub searched : (r : Result ℕ ℕ) → IsSearchInRange r (length numbers) → IsBinarySearchResult (λ (s : ℕ). nat_cmp s n) numbers r → IsSearched numbers n (result_ok r)
  searched (Ok place) within equal =
      let number : get_or numbers place 0 ≡ n = ranked _ n _ (sym (equal 0)) in
      record { found = slice_get-get_or numbers place 0 within ∙ ap (λ k. Some k) number; missing = λ e. absurd (cc) }
  searched (Err gap) within parted =
      record {
        found = tt;
        missing = λ e. none-has numbers n (λ k inside same. differs (nat_lt k gap) k refl inside same);
      }
    where
      differs : (b : Bool) (k : ℕ) → nat_lt k gap ≡ b → k < length numbers → get_or numbers k 0 ≡ n → ⊥
      differs true k side inside same =
          let low : k < gap = grind (arith, nat_tests) in
          let less : get_or numbers k 0 < n = ranked _ n _ (sym ((parted comparisons-rise).0 k 0 (omega arith) low)) in
          omega arith
      differs false k side inside same =
          let high : gap ≤ k = grind (arith, nat_tests) in
          let more : n < get_or numbers k 0 = ranked _ n _ (sym ((parted comparisons-rise).1 k 0 high inside)) in
          omega arith
