-- The inputs that are used, with one more.
use Rattle.std.proofs.Common.{◌≡◌, ℕ, ◌==◌, ◌&&◌, ◌||◌, Bool, true, if◌then◌else◌, rules}
use Rattle.std.specs.Ordering.{is_eq, ordering_then, nat_cmp}

-- an input in none of the slots is one of the others
pub inserted : (place input i j : ℕ) (low new old : Bool) → new ≡ (if is_eq (ordering_then (nat_cmp place i) (nat_cmp input j)) then true else old)
    → (low || new) ≡ (((place == i) && (input == j)) || (low || old))
inserted place input i j low new old e = search rules
