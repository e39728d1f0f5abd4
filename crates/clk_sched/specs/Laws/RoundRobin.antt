-- What a RoundRobinSched does.
use Rattle.std.specs.Prelude.{ℕ, ◌+◌, ◌%◌, List, [], ◌∷◌, map, Option, Some, None}
use Rattle.std.specs.List.{range_with_len}
use Rattle.clk_sched.specs.Turns.{Turn, giver}

-- the input at which a RoundRobinSched begins: after the one that gave the latest packet, wrapping round, and input 0 if none gave one yet
abbrev pub beginning : ℕ → List Turn → ℕ
beginning inputs [] = 0
beginning inputs (t ∷ earlier) = after (giver t.visits) (beginning inputs earlier)
  where
    after : Option ℕ → ℕ → ℕ
    after None before = before
    after (Some input) before = (input + 1) % inputs

-- A RoundRobinSched asks all its inputs in order, from the one at which it begins, and wraps round (Click: RoundRobinSched).
abbrev pub round_robin_order : ℕ → List Turn → List ℕ
round_robin_order inputs earlier = map (λ k. (beginning inputs earlier + k) % inputs) (range_with_len 0 inputs)
