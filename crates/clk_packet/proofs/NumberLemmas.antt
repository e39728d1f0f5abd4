-- A number that is read digit by digit.
use Rattle.std.proofs.Common.{◌≡◌, ℕ, ◌+◌, ◌*◌, ◌-◌, ◌<◌, ◌≤◌, ◌%◌, ◌&&◌, Bool, true, false, cond, nat_le, drop, slice_index_or, subst, List, [], ◌∷◌, ◌++◌, length, Some, None, refl, sym, ap, ◌∙◌, arith}
use Rattle.std.specs.Char.{is_ascii_digit, digit_value}
use Rattle.std.specs.Str.{all_ascii_digits}
use Rattle.std.specs.Str.Parse.{digits_value, digits_value_after}
use Rattle.std.proofs.lemmas.Bool.Decides.{nat_tests}
use Rattle.std.proofs.lemmas.List.{drop_more}
use Rattle.std.proofs.lemmas.Str.{digit_value_digit}
use Rattle.clk_packet.specs.Numbers.{has_bytes, leading_digits, number_in}

-- a number is at least what its first digits make
pub more_digits : (number : ℕ) (digits : List ℕ) → number ≤ digits_value_after 10 number digits
more_digits number [] = omega arith
more_digits number (d ∷ digits) = omega (arith, more_digits (number * 10 + digit_value d) digits)

-- the value of digits and more digits
pub value-on : (n : ℕ) (digits more : List ℕ) → digits_value_after 10 n (digits ++ more) ≡ digits_value_after 10 (digits_value_after 10 n digits) more
value-on n [] more = refl
value-on n (d ∷ digits) more = value-on (n * 10 + digit_value d) digits more

-- digits whose value is past the range
pub too_large : (least most : ℕ) (digits : List ℕ) → most < digits_value 10 digits → number_in least most digits ≡ None
too_large least most digits more =
    let no : nat_le (digits_value 10 digits) most ≡ false = grind (arith, nat_tests) in
    rw no (by_test (all_ascii_digits digits && has_bytes digits && nat_le least (digits_value 10 digits)) (digits_value 10 digits))
  where
    by_test : (b : Bool) (n : ℕ) → cond (b && false) (Some n) None ≡ None
    by_test true n = refl
    by_test false n = refl

-- a number is past the range where its first bytes make one that is
pub front-large : (least most : ℕ) (front rest : List ℕ) → most < digits_value 10 front → number_in least most (front ++ rest) ≡ None
front-large least most front rest more =
    let value = value-on 0 front rest in let least_of = more_digits (digits_value 10 front) rest in too_large least most (front ++ rest) (omega (arith, more, value, least_of))

-- the first bytes of a text are digits of this number, and this is what is left of it
pub record Leads (text : List ℕ) (number : ℕ) (rest : List ℕ) (len : ℕ) : Type 0 where
  pub value : digits_value_after 10 number (leading_digits rest) ≡ digits_value 10 (leading_digits text)
  pub count : len + length (leading_digits rest) ≡ length (leading_digits text)

-- one digit more
Leads-digit : (text : List ℕ) (number byte : ℕ) (rest : List ℕ) (len : ℕ) → is_ascii_digit byte ≡ true → Leads text number (byte ∷ rest) len → Leads text (number * 10 + (byte - 48)) rest (len + 1)
Leads-digit text number byte rest len e h =
    let low : 48 ≤ byte = grind (arith, nat_tests) in
    let high : byte ≤ 57 = grind (arith, nat_tests) in
    let value : digit_value byte ≡ byte - 48 = omega (arith, digit_value_digit byte (low, high)) in
    let leads : leading_digits (byte ∷ rest) ≡ byte ∷ leading_digits rest = rw e refl in
    let count = h.count in
    let many = ap length leads in
    record {
      value = ap (λ d. digits_value_after 10 (number * 10 + d) (leading_digits rest)) (sym value) ∙ ap (digits_value_after 10 number) (sym leads) ∙ h.value;
      count = omega (arith, count, many);
    }

-- the same, where what a byte is past the code of 0 is a difference that wraps round
pub Leads-wrapped : (text : List ℕ) (number i len code : ℕ) → i < length text → code ≡ slice_index_or text i 0 → code < 18446744073709551616 → (code + 18446744073709551568) % 18446744073709551616 ≤ 9
    → Leads text number (drop i text) len → Leads text (number * 10 + (code + 18446744073709551568) % 18446744073709551616) (drop (i + 1) text) (len + 1)
Leads-wrapped text number i len code there is fits few h =
    let byte = slice_index_or text i 0 in
    let next : drop i text ≡ byte ∷ drop (i + 1) text = drop_more text i 0 there in
    let low : 48 ≤ byte = omega (arith, is, fits, few) in
    let high : byte ≤ 57 = omega (arith, is, fits, few) in
    let digit : (code + 18446744073709551568) % 18446744073709551616 ≡ byte - 48 = omega (arith, is, fits, few) in
    let is_digit : is_ascii_digit byte ≡ true = grind (arith, nat_tests) in
    rw digit (Leads-digit text number byte (drop (i + 1) text) len is_digit (subst (λ r. Leads text number r len) next h))

-- a number that is past the range stays past it
pub Leads-past : (text : List ℕ) (number : ℕ) (rest : List ℕ) (len most : ℕ) → most < number → Leads text number rest len → most < digits_value 10 (leading_digits text)
Leads-past text number rest len most past h = let value = h.value in let least_of = more_digits number (leading_digits rest) in omega (arith, past, value, least_of)
