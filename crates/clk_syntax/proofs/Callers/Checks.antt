-- Checks that find nothing.
use Rattle.std.proofs.Common.{◌≡◌, ℕ, Bool, false, Option, None, rules}
use Rattle.std.specs.Option.{option_or}
use Rattle.clk_syntax.specs.Declarations.{fails_at}

-- neither of two checks finds a place
pub neither : {A : Type 0} (a b : Option A) → option_or a b ≡ None → (a ≡ None) × (b ≡ None)
neither a b e = search rules

-- what doesn't fail at a place
pub fails-not : (b : Bool) (place : ℕ) → fails_at b place ≡ None → b ≡ false
fails-not b place e = search rules
