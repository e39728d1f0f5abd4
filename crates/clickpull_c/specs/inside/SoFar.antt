-- What the pulls of one call have done so far.
use Rattle.std.specs.Prelude.{◌≡◌, ℕ, ◌≤◌, List, length, take, drop}
use Rattle.clk_router.specs.Course.{Course}
use Rattle.clickpull_c.specs.declared.values.CPacket.{CPacket}
use Rattle.clickpull_c.specs.declared.values.CDeparture.{CDeparture}
use Rattle.clk_router.specs.Chains.{IsChain}
use Rattle.clickpull_c.specs.Calls.{GivesOne, DrainPull, PullsNext, HasRoom, departures_of}

-- `given` pulls at a moment emitted a packet each
pub record GaveSoFar (old new : Course) (device moment : ℕ) (before filled : List CPacket) (given : ℕ) : Type 0 where
  pub within : given ≤ length before
  pub gave : IsChain (GivesOne device moment) old (take given filled) new
  pub others : drop given filled ≡ drop given before

-- `made` pulls of a drain emitted `given` packets
pub record DrainedSoFar (old new : Course) (device : ℕ) (before filled : List CDeparture) (made given : ℕ) : Type 0 where
  pub pulls : List DrainPull
  pub chain : IsChain (PullsNext device) old pulls new
  pub count : length pulls ≡ made
  pub room : HasRoom (length before) pulls
  pub within : given ≤ length before
  pub gave : take given filled ≡ departures_of pulls
  pub others : drop given filled ≡ drop given before
