-- Deficit round robin: whose turn it is, and a deficit counter for each input. A DRRSched goes by these, visit by visit. The counters, and
-- which packets may pass, are those of Shreedhar and Varghese (1995). The order is not: there an input that gets packets goes to the end of
-- a list, and here inputs have their turns by index, those without packets too.
use Rattle.std.specs.Prelude.{◌≡◌, ℕ, ◌+◌, ◌-◌, ◌%◌, ◌==◌, Bool, true, false, nat_le, List, [], ◌∷◌, ◌++◌, reverse, Option, Some, None, if◌then◌else◌}
use Rattle.std.specs.Option.{option_map_or}
use Rattle.clk_packet.specs.declared.packet.Packet.{Packet}
use Rattle.clk_sched.specs.declared.visit.Visit.{Visit}
use Rattle.clk_sched.specs.Laws.Deficit.{quantum_at}
use Rattle.clk_sched.specs.Turns.{Turn, all_visits}

-- Between two visits: the input whose turn it is, whether its quantum is still to be added, and the deficit counter of each input.
pub record Round : Type 0 where
  pub input : ℕ
  pub is_new : Bool
  pub counter : ℕ → ℕ

-- at first it is the turn of input 0, and all counters are 0
abbrev pub first_round : Round
first_round = record { input = 0; is_new = true; counter = λ i. 0 }

-- how many bytes the input whose turn it is may pass: its counter, with its quantum if that is still to be added
abbrev pub may_pass : List ℕ → Round → ℕ
may_pass quanta r = r.counter r.input + (if r.is_new then quantum_at quanta r.input else 0)

-- the input whose turn it is gets this counter, and keeps its turn
abbrev pub stays_with : ℕ → Round → Round
stays_with n r = record { input = r.input; is_new = false; counter = λ i. if i == r.input then n else r.counter i }

-- the input whose turn it is gets this counter, and the next of so many inputs gets its turn
abbrev pub moves_on_with : ℕ → ℕ → Round → Round
moves_on_with inputs n r = record { input = (r.input + 1) % inputs; is_new = true; counter = λ i. if i == r.input then n else r.counter i }

-- After a visit that found this packet, or none. A packet that may pass is passed, and its length is taken off. One that is too long waits,
-- and what may pass is kept for the next turn. An input without a packet keeps nothing.
abbrev pub round_after : List ℕ → ℕ → Round → Option Packet → Round
round_after quanta inputs r None = moves_on_with inputs 0 r
round_after quanta inputs r (Some p) =
    if nat_le p.length (may_pass quanta r) then stays_with (may_pass quanta r - p.length) r else moves_on_with inputs (may_pass quanta r) r

-- the round after these visits, the latest first
abbrev pub round_of : List ℕ → ℕ → List Visit → Round
round_of quanta inputs [] = first_round
round_of quanta inputs (v ∷ earlier) = round_after quanta inputs (round_of quanta inputs earlier) v.got

-- A visit goes to the input whose turn it is, and passes a packet exactly if it is no longer than what may pass.
pub record KeepsToRound (quanta : List ℕ) (r : Round) (v : Visit) : Type 0 where
  pub in_turn : v.input ≡ r.input
  pub passes : v.passed ≡ option_map_or (λ (p : Packet). nat_le p.length (may_pass quanta r)) v.got false

-- A DRRSched with these quanta goes by deficit round robin in all its turns.
abbrev pub GoesByRounds : List ℕ → ℕ → List Turn → Type 0
GoesByRounds quanta inputs turns = (before after : List Visit) (v : Visit) → all_visits turns ≡ before ++ v ∷ after → KeepsToRound quanta (round_of quanta inputs (reverse before)) v
