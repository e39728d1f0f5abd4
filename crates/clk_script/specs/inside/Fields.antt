-- The fields of a line by their places.
use Rattle.std.specs.Prelude.{ℕ, List, [], unwrap_or, slice_get}

-- the field at a place, or no bytes if there is none
abbrev pub field_at : List (List ℕ) → ℕ → List ℕ
field_at fields i = unwrap_or (slice_get fields i) []
