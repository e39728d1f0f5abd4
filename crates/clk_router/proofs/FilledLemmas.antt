-- Bits of a set of queues.
use Rattle.std.proofs.Common.{◌≡◌, ◌≢◌, ℕ, ◌+◌, ◌*◌, ◌/◌, ◌%◌, ◌^◌, ◌<◌, ◌⊎◌, inl, inr, List, length, slice_index, slice_set, get_or, sym, ap, ◌∙◌, arith, w64, div-le_self, lt_of_le_of_lt}
use Rattle.std.specs.Int.{bit_at, trailing_zeros}
use Rattle.std.proofs.lemmas.Bool.{cases_eq}
use Rattle.std.proofs.lemmas.Nat.{shr-shr}
use Rattle.std.proofs.lemmas.Nat.Bits.{bit_at-trailing_zeros, bit_at-zero}
use Rattle.std.proofs.lemmas.Grind.{get_or-set_at, get_or_default_zero}
use Rattle.std.proofs.lemmas.List.{get_or-set_other}
use Rattle.clk_router.specs.inside.Queues.{bit_of}

-- One word of a set was written: the word of the queue q.
module _ (words : List ℕ) (i word written q : ℕ) (at : i ≡ q / 64) (there : q < 64 * length words) where
  within : i < length words
  within = omega (arith, at, there)

  pub written-here : bit_of (slice_set words i written) q ≡ bit_at written (q % 64)
  written-here = ap (λ n. bit_at n (q % 64)) (get_or-set_at words i (q / 64) written 0 (sym at) within)

  -- If it differs in the bit of this queue alone, all others are as they were.
  pub others-kept : word ≡ get_or words i word → ((k : ℕ) → k < 64 → k ≢ q % 64 → bit_at written k ≡ bit_at word k) → (r : ℕ) → r ≢ q → bit_of (slice_set words i written) r ≡ bit_of words r
  others-kept read alike r apart = by_word (cases_eq (r / 64) i)
    where
      by_word : (r / 64 ≡ i) ⊎ (r / 64 ≢ i) → bit_of (slice_set words i written) r ≡ bit_of words r
      by_word (inl same) =
          let other : r % 64 ≢ q % 64 = λ bits. apart (omega (arith, same, at, bits)) in
          ap (λ n. bit_at n (r % 64)) (get_or-set_at words i (r / 64) written 0 same within) ∙ alike (r % 64) (omega arith) other
          ∙ ap (λ n. bit_at n (r % 64)) (read ∙ get_or_default_zero words i word within ∙ ap (λ k. slice_index words k) (sym same))
      by_word (inr differs) = ap (λ n. bit_at n (r % 64)) (get_or-set_other words i (r / 64) written 0 differs)

-- What the lowest 1 of a word tells, from a place on.
pub zeros-from : (word place k : ℕ) → word < 2 ^ 64 → k < trailing_zeros w64 (word / 2 ^ place) → bit_at word (place + k) ≡ 0
zeros-from word place k fits low = ap (λ n. n % 2) (sym (shr-shr word place k)) ∙ by_rest (cases_eq rest 0)
  where
    rest : ℕ
    rest = word / 2 ^ place

    by_rest : (rest ≡ 0) ⊎ (rest ≢ 0) → bit_at rest k ≡ 0
    by_rest (inl nothing) = ap (λ n. bit_at n k) nothing ∙ bit_at-zero k
    by_rest (inr some) = (bit_at-trailing_zeros w64 rest (omega (arith, some)) (lt_of_le_of_lt (div-le_self word (2 ^ place)) fits)).2 k low

-- Bits of the word of q that follow its own are those of the queues after it.
pub bit-after : (words : List ℕ) (q k : ℕ) → q % 64 + k < 64 → bit_of words (q + k) ≡ bit_at (slice_index words (q / 64)) (q % 64 + k)
bit-after words q k low =
    let word : (q + k) / 64 ≡ q / 64 = omega (arith, low) in
    let bit : (q + k) % 64 ≡ q % 64 + k = omega (arith, low) in
    ap (λ i. bit_at (slice_index words i) ((q + k) % 64)) word ∙ ap (bit_at (slice_index words (q / 64))) bit
