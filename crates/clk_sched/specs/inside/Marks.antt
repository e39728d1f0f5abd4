-- Tables that mark queues by their numbers.
use Rattle.std.specs.Prelude.{◌≡◌, ℕ, ◌<◌, Bool, true, false, List, get_or}
use Rattle.clk_packet.specs.Lists.{stands_in, are_distinct}

-- exactly these queues are marked
abbrev pub Marks : List Bool → List ℕ → Type 0
Marks marks queues = (q : ℕ) → q < 65536 → get_or marks q false ≡ stands_in q queues

-- `told` says whether some queues are distinct; if they are, exactly these are marked
pub record AreMarked (told : Bool) (marks : List Bool) (queues : List ℕ) : Type 0 where
  pub distinct : told ≡ are_distinct queues
  pub marked : told ≡ true → Marks marks queues
