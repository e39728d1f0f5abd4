-- The moments of a run's pulls (this project's own choice).
use Rattle.std.specs.Prelude.{◌≡◌, ℕ, ◌+◌, ◌*◌, ◌≤◌, List, ◌++◌, length, map}
use Rattle.std.specs.List.{range_with_len}
use Rattle.clk_sched.specs.declared.visit.Visit.{Visit}
use Rattle.clk_sched.specs.Bound.{closing_bound}
use Rattle.clk_sched.specs.Log.{pulls, moment_of}
use Rattle.clk_sched.specs.Session.{given_in, LastGives}
use Rattle.clk_sched.specs.Tree.{Tree}

-- A device was pulled the k-th time at k times `step`, at most `limit` times, and then drained one tick apart. The drain begins one tick
-- after the latest of these pulls.
pub record HasMoments (step limit : ℕ) (tree : Tree) (log : List Visit) : Type 0 where
  pub running : List (List Visit)
  pub closing : List (List Visit)
  pub pulls_are : pulls log ≡ running ++ closing
  pub within : length running ≤ limit
  pub each_step : map moment_of running ≡ map (λ k. k * step) (range_with_len 1 (length running))
  pub each_tick : map moment_of closing ≡ range_with_len (length running * step + 1) (length closing)
  -- The drain stops as soon as its last packet was emitted, within the most pulls that a drain of so many packets may take.
  pub stops : LastGives closing
  pub few : length closing ≤ closing_bound tree (length (given_in closing))
