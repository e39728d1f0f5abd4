-- What pulls emitted so far.
use Rattle.std.specs.Prelude.{◌≡◌, ℕ, ◌<◌, ◌≤◌, List, length, take, drop}
use Rattle.clk_router.specs.Chains.{IsChain}
use Rattle.clk_live.specs.declared.draining.Departed.{Departed}
use Rattle.clk_live.specs.declared.pulling.Emitted.{Emitted}
use Rattle.clk_live.specs.State.{Seen}
use Rattle.clk_live.specs.Pulling.{Emits}
use Rattle.clk_live.specs.Draining.{DrainPull, PullsNext, departed_of}

-- `given` packets were emitted, and filled in
pub record GaveSoFar (device moment : ℕ) (old new : Seen) (before filled : List Emitted) (given : ℕ) : Type 0 where
  pub within : given ≤ length before
  pub many : length filled ≡ length before
  pub gave : IsChain (Emits device moment) old (take given filled) new
  pub others : drop given filled ≡ drop given before

-- `made` pulls of a drain were made, and `given` packets were emitted
pub record DrainedSoFar (device : ℕ) (old new : Seen) (before filled : List Departed) (made given : ℕ) : Type 0 where
  pub pulls : List DrainPull
  pub chain : IsChain (PullsNext device) old pulls new
  pub count : length pulls ≡ made
  pub room : (n : ℕ) → n < length pulls → length (departed_of (take n pulls)) < length before
  pub within : given ≤ length before
  pub many : length filled ≡ length before
  pub gave : take given filled ≡ departed_of pulls
  pub others : drop given filled ≡ drop given before
