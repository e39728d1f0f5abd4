-- What a drain does to a session.
use Rattle.std.specs.Prelude.{◌≡◌, ℕ, ◌<◌, ◌≤◌, max, Option, Result, Ok, Err, IfOk, IfErr, IsOkUnless}
use Rattle.clk_packet.specs.declared.packet.Packet.{Packet}
use Rattle.clk_packet.specs.declared.fault.Fault.{Fault}
use Rattle.clk_packet.specs.declared.fault.Fault.TheVariants.{Memory, TooManyPulls}
use Rattle.clk_sched.specs.Closing.{LosesNothing, left_in}
use Rattle.clk_sched.specs.Answers.{Answers, tree_queue}
use Rattle.clk_sched.specs.Bound.{closing_bound}
use Rattle.clk_sched.specs.Session.{Progress, SessionLists, progress_of, newly, counted_moment, IsDrained, LastGives}

-- the moment after which a drain from a moment on makes its pulls: that moment, or the latest of the session if it is later
abbrev pub drain_start : SessionLists → ℕ → ℕ
drain_start s moment = max (counted_moment (progress_of s)) moment

-- A drain emitted all that was left, within the closing bound, and stopped as soon as it had.
pub record GivesAll (old new : Progress) (moment made left : ℕ) : Type 0 where
  pub within : made ≤ closing_bound old.tree left
  pub drained : IsDrained old new moment made left
  pub stops : LastGives drained.more

-- A drain stopped, within the closing bound, before it had emitted all that was left.
pub record StopsShort (old new : Progress) (moment made left : ℕ) : Type 0 where
  pub within : made ≤ closing_bound old.tree left
  pub given : ℕ
  pub fewer : given < left
  pub drained : IsDrained old new moment made given

-- why a drain stopped short: fault 1, or it had made as many pulls as the closing bound
abbrev pub StopsAt : Progress → Progress → ℕ → ℕ → Fault → Type 0
StopsAt old new moment left Memory = (made : ℕ) × StopsShort old new moment made left
StopsAt old new moment left (TooManyPulls made) = (made ≡ closing_bound old.tree left) × StopsShort old new moment made left
StopsAt old new moment left fault = ⊥

-- A session was drained of `left` packets, from a moment on, while its queues went from `before` to `after`. `result` is the number of
-- pulls, or why the drain stopped short.
pub record HasDrained {S : Type 0} (gives : S → ℕ → Option Packet → S → Type 0) (holds : S → ℕ → ℕ) (before after : S) (old new : SessionLists) (left moment : ℕ) (result : Result ℕ Fault) : Type 0 where
  pub all : IfOk result (λ made. GivesAll (progress_of old) (progress_of new) (drain_start old moment) made left)
  pub short : IfErr result (StopsAt (progress_of old) (progress_of new) (drain_start old moment) left)
  -- of no packets, it makes no pull
  pub none_left : left ≡ 0 → (result ≡ Ok 0) × (new ≡ old) × (after ≡ before)
  -- over queues that lose nothing, and that together with the heads hold exactly `left` packets, it never makes too many pulls
  pub ends : LosesNothing gives holds → left ≡ left_in old.tree old.log (holds before) → IsOkUnless result Memory
  pub keeps : new.keeps ≡ old.keeps
  pub gone : new.gone ≡ old.gone
  -- its visits are what the queues gave
  pub answers : Answers gives (tree_queue old.tree) before (newly (progress_of old) (progress_of new)) after

-- the result of a drain that returns something else than the number of its pulls
abbrev pub after_pulls : {A : Type 0} → ℕ → Result A Fault → Result ℕ Fault
after_pulls made (Ok value) = Ok made
after_pulls made (Err fault) = Err fault
