-- The decimal digits of a number are read as that number, within a range.
use Rattle.std.proofs.Common.{◌≡◌, ℕ, ◌<◌, ◌≤◌, ◌^◌, ◌&&◌, nat_le, true, if◌then◌else◌, List, length, Some, None, refl, rules}
use Rattle.std.specs.Fmt.{decimal}
use Rattle.std.specs.Str.{all_ascii_digits}
use Rattle.std.specs.Str.Parse.{digits_value}
use Rattle.std.proofs.lemmas.Fmt.{decimal_nonempty, decimal_is_IsNumeral, digits_decimal}
use Rattle.std.proofs.lemmas.Str.Parse.{numerals_by_value, tells_all_ascii_digits}
use Rattle.clk_packet.specs.Numbers.{has_bytes, number_in}
use Rattle.clk_packet.proofs.Callers.Numbers.{AreDigits}

some-bytes : (bytes : List ℕ) → 0 < length bytes → has_bytes bytes ≡ true
some-bytes bytes some = search rules

pub decimal-digits : (n : ℕ) → n < 2 ^ 64 → AreDigits (decimal n)
decimal-digits n below = record {
  all = digits_decimal (numerals_by_value (λ ds. all_ascii_digits ds ≡ true) tells_all_ascii_digits) n below;
  some = some-bytes (decimal n) (decimal_nonempty n below);
}

-- in a range or not
pub number-read : (least most n : ℕ) → n < 2 ^ 64 → number_in least most (decimal n) ≡ (if nat_le least n && nat_le n most then Some n else None)
number-read least most n below =
    let are : AreDigits (decimal n) = decimal-digits n below in
    let value : digits_value 10 (decimal n) ≡ n = (decimal_is_IsNumeral n below).1 in
    rw (are.all, are.some, value) refl

pub number-again : (least most n : ℕ) → most < 2 ^ 64 → least ≤ n → n ≤ most → number_in least most (decimal n) ≡ Some n
number-again least most n small low high = search (rules, number-read)
