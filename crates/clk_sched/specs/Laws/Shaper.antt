-- What a Shaper does (this project's own choice: a token bucket without tokens).
use Rattle.std.specs.Prelude.{ℕ, ◌+◌, ◌*◌, ◌&&◌, Bool, true, nat_le, List, [], ◌∷◌, is_some, if◌then◌else◌}
use Rattle.clk_sched.specs.Turns.{Turn, giver}

-- whether a packet passed in a turn
abbrev pub has_passed : Turn → Bool
has_passed t = is_some (giver t.visits)

-- how many packets passed in some turns
abbrev pub packets_passed : List Turn → ℕ
packets_passed [] = 0
packets_passed (t ∷ turns) = if has_passed t then packets_passed turns + 1 else packets_passed turns

-- One more packet at this moment keeps to burst and rate since each earlier turn in which a packet passed: with it, those passed from that
-- turn on are at most the burst plus the rate for each tick since then. The turns after the earlier ones are `later`.
abbrev pub keeps_since_each : (rate burst moment : ℕ) → List Turn → List Turn → Bool
keeps_since_each rate burst moment later [] = true
keeps_since_each rate burst moment later (t ∷ earlier) =
    (if has_passed t then nat_le (packets_passed (t ∷ later) + 1 + rate * t.moment) (burst + rate * moment) else true)
    && keeps_since_each rate burst moment (t ∷ later) earlier

-- A Shaper asks its one input exactly if it has room for a packet at the counted moment: one more keeps to burst and rate.
abbrev pub shaper_order : ℕ → ℕ → List Turn → ℕ → List ℕ
shaper_order rate burst earlier moment = if keeps_since_each rate burst moment [] earlier then 0 ∷ [] else []
