-- The inputs that are used, as the code keeps them.
use Rattle.std.specs.Prelude.{ℕ, ◌+◌, ◌==◌, ◌&&◌, ◌||◌, length, get_or, Bool, false, Option, Some, None}
use Rattle.std.specs.declared.cmp.Ordering.{Ordering}
use Rattle.std.specs.Ordering.{ordering_then, nat_cmp}
use Rattle.std.specs.BTreeSet.{contains}
use Rattle.clk_syntax.specs.declared.checks.used.UsedInputs.{UsedInputs}

abbrev pub pair_cmp : ℕ × ℕ → ℕ × ℕ → Ordering
pair_cmp x y = ordering_then (nat_cmp x.0 y.0) (nat_cmp x.1 y.1)

-- whether a slot has this input
abbrev pub is_in : Option (ℕ × ℕ) → ℕ → ℕ → Bool
is_in None i j = false
is_in (Some used) i j = (used.0 == i) && (used.1 == j)

abbrev pub is_used : UsedInputs → ℕ → ℕ → Bool
is_used used i j = is_in (get_or used.slots.items (get_or used.starts.items i 0 + j) None) i j || contains pair_cmp used.more (i, j)

abbrev pub size : UsedInputs → ℕ
size used = length used.starts.items
