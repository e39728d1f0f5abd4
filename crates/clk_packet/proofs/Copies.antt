-- What a copy to the front of a list gives.
use Rattle.std.proofs.Common.{◌≡◌, ℕ, ◌≤◌, ◌<◌, List, [], ◌++◌, length, take, drop, min, Some, Ok, sym, arith}
use Rattle.std.proofs.lemmas.Grind.{common_steps}
use Rattle.std.proofs.lemmas.List.{take-append-le, length-take-le, take-append-drop, take-take}
use Rattle.std.specs.Io.KnownBytes.{ReadConsumes}

copied_front : (n most : ℕ) (from to : List ℕ) → n ≤ length (take most from) → take n (take n (take most from) ++ drop n to) ≡ take n from
copied_front n most from to h = grind (arith, common_steps, take-take, take-append-le, length-take-le)

copied_splits : (n most : ℕ) (from to : List ℕ) → n ≤ length (take most from) → from ≡ take n (take n (take most from) ++ drop n to) ++ drop n from
copied_splits n most from to h = rw (copied_front n most from to h) (sym (take-append-drop n from))

copied_ends : (n most : ℕ) (from to : List ℕ) → n ≡ min (length (take most from)) (length to) → 0 < most → 0 < length to → n ≡ 0 → drop n from ≡ []
copied_ends n most from to e some room none = grind (arith, common_steps)

-- a read that copies as much as fits of the first bytes of what is left consumes what it copied
pub copy_consumes : (n most : ℕ) (left to : List ℕ) → n ≡ min (length (take most left)) (length to) → 0 < most
    → ReadConsumes {E = ℕ} (Some left) (Some (drop n left)) (Ok n) (take n (take most left) ++ drop n to)
copy_consumes n most left to e some = (copied_splits n most left to (omega arith), λ none room. copied_ends n most left to e some (grind (arith, common_steps)) none)
