-- The numbers of Senders, as the code keeps them.
use Rattle.std.specs.Prelude.{ℕ, ◌/◌, ◌%◌, ◌==◌, List, get_or, Bool}
use Rattle.std.specs.Int.{bit_at}
use Rattle.clk_syntax.specs.declared.naming.numbers.Numbers.{Numbers}

-- whether a bit of the number at a place is set
abbrev pub is_marked : List ℕ → ℕ → ℕ → Bool
is_marked marks i j = bit_at (get_or marks i 0) j == 1

abbrev pub has_number : Numbers → ℕ → Bool
has_number numbers n = is_marked numbers.marks.items (n / 64) (n % 64)
