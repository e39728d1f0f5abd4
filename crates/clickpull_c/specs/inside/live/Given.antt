-- What the pulls and the reclaims of one call have done so far.
use Rattle.std.specs.Prelude.{◌≡◌, ℕ, ◌≤◌, List, length, map, take, drop}
use Rattle.clk_live.specs.State.{LiveState, seen}
use Rattle.clk_live.specs.declared.draining.Departed.{Departed}
use Rattle.clk_live.specs.declared.pulling.Emitted.{Emitted}
use Rattle.clk_live.specs.inside.Given.{GaveSoFar, DrainedSoFar}
use Rattle.clickpull_c.specs.declared.live.router.LiveRouter.{LiveRouter}
use Rattle.clickpull_c.specs.declared.live.values.CDeparted.{CDeparted}
use Rattle.clickpull_c.specs.declared.live.values.CEmitted.{CEmitted}
use Rattle.clickpull_c.specs.Filled.{IsFilled}
use Rattle.clickpull_c.specs.live.Values.{departed_in_c, emitted_in_c}

-- `given` pulls of a live router at a moment emitted a packet each
pub record PulledSoFar (device moment : ℕ) (old now : LiveState) (before filled : List CEmitted) (given : ℕ) : Type 0 where
  pub slots : List Emitted
  pub gave : List Emitted
  pub many : length slots ≡ length before
  pub so_far : GaveSoFar device moment (seen old) (seen now) slots gave given
  pub are_filled : IsFilled before filled (map emitted_in_c (take given gave))
  pub unchanged : (now.outlets ≡ old.outlets) × (now.turn ≡ old.turn)

-- `made` pulls of a drain of a live router emitted `given` packets
pub record DepartedSoFar (device : ℕ) (old now : LiveState) (before filled : List CDeparted) (made given : ℕ) : Type 0 where
  pub slots : List Departed
  pub gave : List Departed
  pub many : length slots ≡ length before
  pub so_far : DrainedSoFar device (seen old) (seen now) slots gave made given
  pub are_filled : IsFilled before filled (map departed_in_c (take given gave))
  pub unchanged : (now.outlets ≡ old.outlets) × (now.turn ≡ old.turn)

-- `given` of the tokens that were left were filled in, and the rest is left
pub record ReclaimedSoFar (tokens : List ℕ) (old now : LiveRouter) (before filled : List ℕ) (given : ℕ) : Type 0 where
  pub given_up : now.live ≡ old.live
  pub inlets : now.inlets ≡ old.inlets
  pub within : (given ≤ length tokens) × (given ≤ length before)
  pub are_filled : IsFilled before filled (take given tokens)
  pub rest : now.reclaimed ≡ drop given tokens
