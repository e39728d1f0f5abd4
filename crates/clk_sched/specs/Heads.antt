-- How a scheduler that holds packets back as heads of its inputs treats these. It is told by the visits across all its pulls, earlier ones
-- with the latest first.
use Rattle.std.specs.Prelude.{◌≡◌, ℕ, zero, suc, ◌==◌, Bool, false, not, List, [], ◌∷◌, is_some, Option, Some, None, MatchOption, MatchBool, ⊤, if◌then◌else◌}
use Rattle.std.specs.Option.{option_map_or}
use Rattle.clk_packet.specs.declared.packet.Packet.{Packet}
use Rattle.clk_sched.specs.declared.visit.Visit.{Visit}

-- the head held at an input: what the latest visit there got, if that is a packet that did not pass
abbrev pub head_at : ℕ → List Visit → Option Packet
head_at input [] = None
head_at input (v ∷ earlier) = if v.input == input then (if v.passed then None else v.got) else head_at input earlier

-- A visit goes to the input whose turn it is, and looks at the head held there, or asks if there is none. It passes the packet exactly if
-- that is covered.
pub record LooksAtHeads (turn_of : List Visit → ℕ) (covers : List Visit → ℕ → Packet → Bool) (earlier : List Visit) (v : Visit) : Type 0 where
  pub in_turn : v.input ≡ turn_of earlier
  pub fresh : v.fresh ≡ not (is_some (head_at v.input earlier))
  pub looks : MatchOption (head_at v.input earlier) ⊤ (λ p. v.got ≡ Some p)
  pub passes : v.passed ≡ option_map_or (covers earlier v.input) v.got false

-- A scheduler's visits in one pull end with the first that passes a packet; if none does, there are as many as it has inputs.
abbrev pub EndAtPass : ℕ → List Visit → Type 0
EndAtPass zero visits = visits ≡ []
EndAtPass (suc n) [] = ⊥
EndAtPass (suc n) (v ∷ visits) = MatchBool v.passed (visits ≡ []) (EndAtPass n visits)
