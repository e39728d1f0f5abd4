-- What calls fill in.
use Rattle.std.specs.Prelude.{◌≡◌, ◌≤◌, List, ◌++◌, length, drop}

-- these values were filled in at the front, and the other places are unchanged
abbrev pub IsFilled : {X : Type 0} → (before filled front : List X) → Type 0
IsFilled before filled front = (length front ≤ length before) × (filled ≡ front ++ drop (length front) before)
