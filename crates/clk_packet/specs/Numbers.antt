-- Numbers in texts (this project's own format).
use Rattle.std.specs.Prelude.{◌≡◌, ℕ, List, [], ◌∷◌, ◌++◌, Bool, true, false, ◌&&◌, nat_le, if◌then◌else◌, Option, Some, None}
use Rattle.std.specs.Char.{is_ascii_digit}
use Rattle.std.specs.Str.{all_ascii_digits}
use Rattle.std.specs.Str.Parse.{digits_value}

-- whether a text has a byte
abbrev pub has_bytes : List ℕ → Bool
has_bytes [] = false
has_bytes (byte ∷ bytes) = true

-- The number that these digits are, if there is at least one digit and the number is in this range. Zeros may lead it, and a sign is no
-- digit.
abbrev pub number_in : ℕ → ℕ → List ℕ → Option ℕ
number_in least most digits =
    if all_ascii_digits digits && has_bytes digits && nat_le least (digits_value 10 digits) && nat_le (digits_value 10 digits) most
    then Some (digits_value 10 digits) else None

-- the digits with which a text begins
abbrev pub leading_digits : List ℕ → List ℕ
leading_digits [] = []
leading_digits (byte ∷ text) = if is_ascii_digit byte then byte ∷ leading_digits text else []

-- a text begins with the digits of a number in this range, this byte and the rest
pub record BeginsWithNumber (text : List ℕ) (end least most number : ℕ) (rest : List ℕ) : Type 0 where
  pub digits : List ℕ
  pub text_is : text ≡ digits ++ end ∷ rest
  pub number_is : number_in least most digits ≡ Some number
