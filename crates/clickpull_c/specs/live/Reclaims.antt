-- How the tokens of packets inside a live router are reclaimed.
use Rattle.std.specs.Prelude.{◌≡◌, ℕ, ◌<◌, ◌≤◌, List, [], length, take, drop, MatchOption, None}
use Rattle.clk_live.specs.Reclaiming.{AreTokensInside}
use Rattle.clk_live.specs.State.{seen}
use Rattle.clickpull_c.specs.declared.live.router.LiveRouter.{LiveRouter}
use Rattle.clickpull_c.specs.declared.statuses.TheConstants.{OK, NONE}
use Rattle.clickpull_c.specs.Filled.{IsFilled}
use Rattle.clickpull_c.specs.live.State.{inlets_of}

-- These tokens are left to reclaim: those of all packets inside, or what an earlier call left of them.
abbrev pub AreLeft : LiveRouter → List ℕ → Type 0
AreLeft l tokens = MatchOption l.live (tokens ≡ l.reclaimed) (λ s. AreTokensInside (seen s) tokens)

-- A reclaim ended: no token is left, and a place is free; or all places are filled.
pub data EndsReclaim (places given status : ℕ) (rest : List ℕ) : Type 0 where
  all : status ≡ OK → given < places → rest ≡ [] → EndsReclaim places given status rest
  full : status ≡ NONE → given ≡ places → EndsReclaim places given status rest

-- The router was given up, if it existed. The first `given` of the tokens that were left were filled in, and the rest is left.
pub record Reclaims (old new : LiveRouter) (before filled : List ℕ) (given status : ℕ) : Type 0 where
  pub tokens : List ℕ
  pub left : AreLeft old tokens
  pub given_up : new.live ≡ None
  pub within : given ≤ length tokens
  pub are_filled : IsFilled before filled (take given tokens)
  pub rest : new.reclaimed ≡ drop given tokens
  pub inlets : inlets_of new ≡ inlets_of old
  pub ends : EndsReclaim (length before) given status (drop given tokens)
