-- Whether two numbers are the same, as a test and as a fact.
use Rattle.std.proofs.Common.{◌≡◌, ◌≢◌, ℕ, ◌==◌, Bool, true, false, Option, refl, arith}
use Rattle.std.specs.Option.{option_map_or}
use Rattle.std.proofs.lemmas.Bool.Decides.{nat_tests}

-- whether there is a number and it is this one
abbrev pub is_number : ℕ → Option ℕ → Bool
is_number n o = option_map_or (λ other. other == n) o false

pub equal : (m n : ℕ) → m ≡ n → (m == n) ≡ true
equal m n e = grind (arith, nat_tests)

pub differs : (m n : ℕ) → m ≢ n → (m == n) ≡ false
differs m n d = grind (arith, nat_tests)

pub same : (m : ℕ) → (m == m) ≡ true
same m = equal m m refl
