-- Places before and after values are filled in, for worked examples.
use Rattle.std.specs.Prelude.{ℕ, List, [], ◌∷◌}

-- three places before anything is filled in
abbrev pub places : List ℕ
places = 1 ∷ 2 ∷ 3 ∷ []

-- one value to fill in
abbrev pub one_value : List ℕ
one_value = 8 ∷ []

-- the places after the value is filled in
abbrev pub one_filled : List ℕ
one_filled = 8 ∷ 2 ∷ 3 ∷ []

-- the value stands in the second place instead of the first
abbrev pub filled_behind : List ℕ
filled_behind = 1 ∷ 8 ∷ 3 ∷ []

-- a second place has changed too
abbrev pub two_filled : List ℕ
two_filled = 8 ∷ 8 ∷ 3 ∷ []

-- more values than places
abbrev pub four_values : List ℕ
four_values = 8 ∷ 8 ∷ 8 ∷ 8 ∷ []
