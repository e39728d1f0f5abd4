-- The order of each class that asks in order names inputs that there are, and none twice; and places around so many inputs.
use Rattle.std.proofs.Common.{◌≡◌, ◌≢◌, ◌⊎◌, ℕ, zero, suc, ◌+◌, ◌-◌, ◌*◌, ◌%◌, ◌<◌, ◌≤◌, nat_lt, Bool, true, false, inl, inr, List, [], ◌∷◌, map, length, refl, sym, ap, ◌∙◌, subst, mod-eq_of_lt, arith, rules}
use Rattle.std.specs.List.{range_with_len, enumerate_from, AllByRecursion}
use Rattle.std.proofs.lemmas.Bool.Decides.{nat_tests}
use Rattle.std.proofs.lemmas.Nat.{mod-mul-add}
use Rattle.std.proofs.lemmas.List.{length-map}
use Rattle.std.proofs.lemmas.List.FromFn.{length-enumerate_from}
use Rattle.clk_sched.specs.Turns.{Turn}
pub use Rattle.clk_sched.specs.inside.Making.{IsPlace}
use Rattle.clk_sched.specs.Laws.Priority.{priority_order}
use Rattle.clk_sched.specs.Laws.Stride.{passes_of, stride_order}
use Rattle.clk_sched.specs.inside.Rising.{put_in_order, in_rising_order}
use Rattle.clk_sched.proofs.Lists.Members.{all-weaker}
use Rattle.clk_sched.specs.inside.Pulling.{AreApart}
use Rattle.clk_sched.proofs.Lists.Apart.{all-map, apart-map}

-- an order of some of so many inputs
pub record IsOrderOf (inputs : ℕ) (order : List ℕ) : Type 0 where
  pub within : AllByRecursion (λ (i : ℕ). i < inputs) order
  pub apart : AreApart (λ (i : ℕ). i) order

-- numbers from one on, up to another
abbrev pub Between : ℕ → ℕ → ℕ → Type 0
Between low high k = (low ≤ k) × (k < high)

range-between : (a n high : ℕ) → a + n ≤ high → AllByRecursion (Between a high) (range_with_len a n)
range-between a zero high l = tt
range-between a (suc n) high l = search (rules, all-weaker, (range-between (a + 1) n high (omega arith)))

range-apart : (a n : ℕ) → AreApart (λ (i : ℕ). i) (range_with_len a n)
range-apart a zero = tt
range-apart a (suc n) = search (rules, all-weaker, range-between, (range-apart (a + 1) n))

pub priority-order : (inputs : ℕ) → IsOrderOf inputs (priority_order inputs)
priority-order inputs = search (rules, all-weaker, range-between, range-apart)

-- a number past so many, and the input that it is around them
record Wraps (n m i : ℕ) : Type 0 where
  within : i < n
  place : (m ≡ i) ⊎ (m ≡ i + n)

wrap : (n m : ℕ) → m < n + n → Wraps n m (m % n)
wrap n m l = by_order (nat_lt m n) refl
  where
    by_order : (b : Bool) → nat_lt m n ≡ b → Wraps n m (m % n)
    by_order true e = let h : m < n = grind (arith, nat_tests) in subst (Wraps n m) (sym (mod-eq_of_lt h)) (record { within = h; place = inl refl })
    by_order false e =
        let h : n ≤ m = grind (arith, nat_tests) in
        let is : m ≡ 1 * n + (m - n) = omega arith in
        let rest : m % n ≡ m - n = ap (λ k. k % n) is ∙ mod-mul-add 1 n (m - n) (omega arith) in
        subst (Wraps n m) (sym rest) (record { within = omega arith; place = inr (omega arith) })

-- an input beyond a number of places
pub record IsBeyond (n s low i : ℕ) : Type 0 where
  pub places : ℕ
  pub above : low ≤ places
  pub below : places < n
  pub place : IsPlace n s places i

pub first-place : (n s : ℕ) → s < n → IsPlace n s 0 s
first-place n s l = record { within = l; place = inl (omega arith) }

pub next-place : (n s j i : ℕ) → s < n → j < n → IsPlace n s j i → IsPlace n s (j + 1) ((i + 1) % n)
next-place n s j i l k h = grind arith

pub beyond-differs : (n s j i k : ℕ) → j < n → IsPlace n s j i → IsBeyond n s (j + 1) k → k ≢ i
beyond-differs n s j i k l h b e = omega arith

pub beyond-lower : (n s low i : ℕ) → IsBeyond n s (low + 1) i → IsBeyond n s low i
beyond-lower n s low i b = record { places = b.places; above = let a = b.above in omega arith; below = b.below; place = b.place }

-- inputs one after another, around
pub around : (n s j count : ℕ) → s < n → j + count ≤ n
    → AllByRecursion (IsBeyond n s j) (map (λ k. (s + k) % n) (range_with_len j count)) × AreApart (λ (i : ℕ). i) (map (λ k. (s + k) % n) (range_with_len j count))
around n s j zero l m = (tt, tt)
around n s j (suc count) l m =
    let w = wrap n (s + j) (omega arith) in
    let here : IsPlace n s j ((s + j) % n) = record { within = w.within; place = w.place } in
    let rest = around n s (j + 1) count l (omega arith) in
    let later = map (λ k. (s + k) % n) (range_with_len (j + 1) count) in (
      (record { places = j; above = omega arith; below = omega arith; place = here }, all-weaker (IsBeyond n s (j + 1)) (IsBeyond n s j) later (λ i b. beyond-lower n s j i b) rest.0),
      (all-weaker (IsBeyond n s (j + 1)) (λ i. i ≢ (s + j) % n) later (λ i b. beyond-differs n s j ((s + j) % n) i (omega arith) here b) rest.0, rest.1),
    )

-- inputs with passes, put in order
pub put-all : (P : ℕ × ℕ → Type 0) (i : ℕ × ℕ) (pairs : List (ℕ × ℕ)) → P i → AllByRecursion P pairs → AllByRecursion P (put_in_order i pairs)
put-all P i [] l h = (l, tt)
put-all P i (j ∷ pairs) l h = search (rules, (put-all P i pairs l h.1))

rising-all : (P : ℕ × ℕ → Type 0) (pairs : List (ℕ × ℕ)) → AllByRecursion P pairs → AllByRecursion P (in_rising_order pairs)
rising-all P [] h = tt
rising-all P (i ∷ pairs) h = put-all P i (in_rising_order pairs) h.0 (rising-all P pairs h.1)

-- the input of one with a pass
abbrev pub paired_input : ℕ × ℕ → ℕ
paired_input pair = pair.0

put-apart : (i : ℕ × ℕ) (pairs : List (ℕ × ℕ)) → AllByRecursion (λ (y : ℕ × ℕ). paired_input y ≢ paired_input i) pairs → AreApart paired_input pairs → AreApart paired_input (put_in_order i pairs)
put-apart i [] d h = (tt, tt)
put-apart i (j ∷ pairs) d h = search (rules, put-all, (put-apart i pairs d.1 h.1))

pub rising-apart : (pairs : List (ℕ × ℕ)) → AreApart paired_input pairs → AreApart paired_input (in_rising_order pairs)
rising-apart [] h = tt
rising-apart (i ∷ pairs) h = put-apart i (in_rising_order pairs) (rising-all (λ (y : ℕ × ℕ). paired_input y ≢ paired_input i) pairs h.0) (rising-apart pairs h.1)

pub enumerated : (n high : ℕ) (passes : List ℕ) → n + length passes ≤ high
    → AllByRecursion (λ (y : ℕ × ℕ). Between n high (paired_input y)) (enumerate_from n passes) × AreApart paired_input (enumerate_from n passes)
enumerated n high [] l = (tt, tt)
enumerated n high (p ∷ passes) l = search (rules, all-weaker, (enumerated (n + 1) high passes (omega arith)))

pub passes-length : (tickets : List ℕ) (earlier : List Turn) → length (passes_of tickets earlier) ≡ length tickets
passes-length tickets [] = length-map tickets (λ _. 0)
passes-length tickets (t ∷ earlier) = (search (rules, length-map, length-enumerate_from)) ∙ passes-length tickets earlier

pub stride-order : (tickets : List ℕ) (inputs : ℕ) (earlier : List Turn) → length tickets ≡ inputs → IsOrderOf inputs (stride_order tickets earlier)
stride-order tickets inputs earlier e = search (rules, enumerated, passes-length, all-map, all-weaker, rising-all, apart-map, rising-apart)
