-- Arguments of classes, one after another.
use Rattle.std.proofs.Common.{◌≡◌, ℕ, List, ◌++◌}
use Rattle.std.specs.Option.{option_map}
use Rattle.clk_syntax.specs.Classes.{numbers_to}

-- these numbers are read, and these words are left
pub record ReadsNumbers (most : ℕ) (words : List (List ℕ)) (numbers : List ℕ) (rest : List (List ℕ)) : Type 0 where
  pub are : numbers_to most words ≡ option_map (λ ns. numbers ++ ns) (numbers_to most rest)
