-- What a StrideSched does (Waldspurger 1995, with this project's rule for idle inputs).
use Rattle.std.specs.Prelude.{ℕ, ◌+◌, ◌/◌, ◌==◌, ◌&&◌, ◌||◌, Bool, nat_lt, nat_le, List, [], ◌∷◌, map, Option, Some, None, unwrap_or, slice_get, if◌then◌else◌}
use Rattle.std.specs.List.{enumerate_from, list_any}
use Rattle.clk_sched.specs.declared.visit.Visit.{Visit}
use Rattle.clk_sched.specs.Sorting.{sorted}
use Rattle.clk_sched.specs.Turns.{Turn, giver}

-- what a pass grows by: 65,536 over the tickets, rounded down
abbrev pub stride_of : ℕ → ℕ
stride_of tickets = 65536 / tickets

-- the stride of an input, by the tickets of each
abbrev pub stride_at : List ℕ → ℕ → ℕ
stride_at tickets input = stride_of (unwrap_or (slice_get tickets input) 1)

-- the pass of an input, by the passes of all
abbrev pub pass_in : List ℕ → ℕ → ℕ
pass_in passes input = unwrap_or (slice_get passes input) 0

-- whether one of these visits is to this input
abbrev pub visits_input : ℕ → List Visit → Bool
visits_input input visits = list_any (λ (v : Visit). v.input == input) visits

-- The passes after a pull: that of the winner, the input that gave the packet, grows by its stride. Each input visited before the winner
-- gets the pass that the winner had. A pull without a winner changes none.
abbrev pub passes_after : List ℕ → List ℕ → Turn → List ℕ
passes_after tickets passes t = won (giver t.visits)
  where
    won : Option ℕ → List ℕ
    won None = passes
    won (Some w) =
        map (λ (i : ℕ × ℕ). if i.0 == w then i.1 + stride_at tickets w else (if visits_input i.0 t.visits then pass_in passes w else i.1)) (enumerate_from 0 passes)

-- the passes after these turns, all 0 at first
abbrev pub passes_of : List ℕ → List Turn → List ℕ
passes_of tickets [] = map (λ _. 0) tickets
passes_of tickets (t ∷ earlier) = passes_after tickets (passes_of tickets earlier) t

-- whether an input, given with its pass, goes before another: by (pass, index)
abbrev pub goes_before : ℕ × ℕ → ℕ × ℕ → Bool
goes_before i j = nat_lt i.1 j.1 || ((i.1 == j.1) && nat_le i.0 j.0)

-- A StrideSched asks inputs in rising order of (pass, index), by the passes at the start of the pull.
abbrev pub stride_order : List ℕ → List Turn → List ℕ
stride_order tickets earlier = map (λ (i : ℕ × ℕ). i.0) (sorted goes_before (enumerate_from 0 (passes_of tickets earlier)))
