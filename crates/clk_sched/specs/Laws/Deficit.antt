-- What a DRRSched does (Shreedhar and Varghese 1995, pull by pull): which input has its turn, and which packet is covered. All is told by
-- the visits of the node across its pulls, earlier ones with the latest first.
use Rattle.std.specs.Prelude.{◌≡◌, ℕ, ◌+◌, ◌*◌, ◌%◌, ◌==◌, Bool, nat_le, List, [], ◌∷◌, is_some, unwrap_or, slice_get, if◌then◌else◌}
use Rattle.std.specs.Option.{option_map_or}
use Rattle.clk_packet.specs.declared.packet.Packet.{Packet}
use Rattle.clk_sched.specs.declared.visit.Visit.{Visit}

-- The input of the next visit: the same after a visit that passed, and after any other the next input, wrapping round.
abbrev pub next_input : ℕ → List Visit → ℕ
next_input inputs [] = 0
next_input inputs (v ∷ earlier) = if v.passed then v.input else (v.input + 1) % inputs

-- 1 if a visit after these is an arrival at its input, since it is the first of all or follows one that did not pass; else 0
abbrev pub arrives : List Visit → ℕ
arrives [] = 1
arrives (v ∷ earlier) = if v.passed then 0 else 1

-- how many arrivals an input had since the latest visit to it that got nothing
abbrev pub arrivals : ℕ → List Visit → ℕ
arrivals input [] = 0
arrivals input (v ∷ earlier) =
    if v.input == input then (if is_some v.got then arrives earlier + arrivals input earlier else 0) else arrivals input earlier

-- how many bytes passed from an input since the latest visit to it that got nothing
abbrev pub passed_bytes : ℕ → List Visit → ℕ
passed_bytes input [] = 0
passed_bytes input (v ∷ earlier) =
    if v.input == input
    then (if is_some v.got then (if v.passed then option_map_or (λ (p : Packet). p.length) v.got 0 else 0) + passed_bytes input earlier else 0)
    else passed_bytes input earlier

-- the quantum of an input, by the quanta of each
abbrev pub quantum_at : List ℕ → ℕ → ℕ
quantum_at quanta input = unwrap_or (slice_get quanta input) 0

-- How many bytes an input may have passed at a visit to it after these: its quantum for each arrival, that of the visit included. Arrivals
-- count since the latest visit to the input that got nothing.
abbrev pub allowed_bytes : List ℕ → List Visit → ℕ → ℕ
allowed_bytes quanta earlier input = quantum_at quanta input * (arrives earlier + arrivals input earlier)

-- The deficit of an input at a visit to it after these: how many bytes it may still pass.
abbrev pub IsDeficit : List ℕ → List Visit → ℕ → ℕ → Type 0
IsDeficit quanta earlier input deficit = passed_bytes input earlier + deficit ≡ allowed_bytes quanta earlier input

-- A packet is covered if it is no longer than the deficit: its length and the bytes passed are within the bytes allowed.
abbrev pub deficit_covers : List ℕ → List Visit → ℕ → Packet → Bool
deficit_covers quanta earlier input p = nat_le (p.length + passed_bytes input earlier) (allowed_bytes quanta earlier input)
