-- What callers conclude from a drain.
use Rattle.std.proofs.Common.{ℕ, Option, Result, IfOk, IsOkUnless, rules}
use Rattle.clk_packet.specs.declared.packet.Packet.{Packet}
use Rattle.clk_packet.specs.declared.fault.Fault.{Fault}
use Rattle.clk_sched.specs.Session.{Progress, SessionLists, IsDrained, progress_of}
use Rattle.clk_sched.specs.Drain.{GivesAll, HasDrained, after_pulls, drain_start}

-- the pulls that were made, whether a drain gave all or stopped short
pub record SomeDrained (old new : Progress) (moment : ℕ) : Type 0 where
  pub made : ℕ
  pub given : ℕ
  pub drained : IsDrained old new moment made given

pub either-drained : {T S : Type 0} {gives : S → ℕ → Option Packet → S → Type 0} {holds : S → ℕ → ℕ} {before after : S} {old new : SessionLists} {left moment : ℕ} (made : ℕ) (r : Result T Fault) → HasDrained gives holds before after old new left moment (after_pulls made r)
    → SomeDrained (progress_of old) (progress_of new) (drain_start old moment)
either-drained {left = left} made r h = search rules

-- what follows from a drain that gave all, and from what it returns
pub drained-ok : {T S : Type 0} {gives : S → ℕ → Option Packet → S → Type 0} {holds : S → ℕ → ℕ} {before after : S} {old new : SessionLists} {left moment : ℕ} {P R : T → Type 0} (made : ℕ) (r : Result T Fault)
    → ((x : T) → GivesAll (progress_of old) (progress_of new) (drain_start old moment) made left → P x → R x) → HasDrained gives holds before after old new left moment (after_pulls made r) → IfOk r P → IfOk r R
drained-ok made r step h p = search rules

-- a fault of a drain is one of what returns something else than the number of its pulls
pub unless-after : {T : Type 0} (made : ℕ) (r : Result T Fault) (fault : Fault) → IsOkUnless (after_pulls made r) fault → IsOkUnless r fault
unless-after made r fault h = search rules
