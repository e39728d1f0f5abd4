-- Bits for numbers, with one more.
use Rattle.std.proofs.Common.{◌≡◌, ◌≢◌, ℕ, ◌<◌, ◌*◌, ◌%◌, ◌^◌, ◌==◌, ◌&&◌, ◌||◌, false, List, length, get_or, set, replicate, inl, inr, w64, refl, sym, subst, eq-eqb, ne_eqb, rules}
use Rattle.std.specs.Int.RustNames.{bit_or}
use Rattle.std.proofs.lemmas.List.{get_or-set_same, get_or-set_other, get_or-replicate, length-replicate}
use Rattle.std.proofs.lemmas.Nat.Bits.{bit_at-zero, bit_at_set_same, bit_at_set_other}
use Rattle.std.proofs.lemmas.Bool.{cases_eq, cases_lt}
use Rattle.std.proofs.Math.ListN.{get_or-eq_default}
use Rattle.clk_syntax.specs.inside.Numbers.{is_marked}

abbrev with_bit : ℕ → ℕ → ℕ
with_bit n bit = bit_or n (1 * 2 ^ bit % 2 ^ 64)

module _ (marks : List ℕ) (place bit : ℕ) (within : place < length marks) (low : bit < 64) where
  abbrev after : List ℕ
  after = set marks place (with_bit (get_or marks place 0) bit)

  here : get_or after place 0 ≡ with_bit (get_or marks place 0) bit
  here = get_or-set_same marks place _ 0 within

  same_both : (is_marked after place bit) ≡ (((place == place) && (bit == bit)) || is_marked marks place bit)
  same_both = rw (here, bit_at_set_same w64 (get_or marks place 0) bit low, eq-eqb place place refl, eq-eqb bit bit refl) refl

  same_place : (j : ℕ) → j ≢ bit → (is_marked after place j) ≡ (((place == place) && (bit == j)) || is_marked marks place j)
  same_place j other = rw (here, bit_at_set_other w64 (get_or marks place 0) bit low j other, eq-eqb place place refl, ne_eqb bit j (λ e. other (sym e))) refl

  other_place : (i j : ℕ) → i ≢ place → (is_marked after i j) ≡ (((place == i) && (bit == j)) || is_marked marks i j)
  other_place i j other = rw (get_or-set_other marks place i (with_bit (get_or marks place 0) bit) 0 other, ne_eqb place i (λ e. other (sym e))) refl

  pub marked : (i j : ℕ) → (is_marked after i j) ≡ (((place == i) && (bit == j)) || is_marked marks i j)
  marked i j = elim (cases_eq i place) [
    | inl e ↦ elim (cases_eq j bit) [
      | inl f ↦ subst (λ p. (is_marked after p j) ≡ (((place == p) && (bit == j)) || is_marked marks p j)) (sym e)
          (subst (λ b. (is_marked after place b) ≡ (((place == place) && (bit == b)) || is_marked marks place b)) (sym f) same_both)
      | inr g ↦ subst (λ p. (is_marked after p j) ≡ (((place == p) && (bit == j)) || is_marked marks p j)) (sym e) (same_place j g)
    ]
    | inr g ↦ other_place i j g
  ]

-- no bit of zeros is set
pub unmarked : (marks : List ℕ) (count i j : ℕ) → marks ≡ replicate count 0 → is_marked marks i j ≡ false
unmarked marks count i j are = search (rules, cases_lt, bit_at-zero, get_or-replicate, length-replicate, get_or-eq_default)
