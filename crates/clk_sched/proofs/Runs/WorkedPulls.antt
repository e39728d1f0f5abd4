-- Runs of a PrioSched over one queue, pull by pull.
use Rattle.std.proofs.Common.{◌≡◌, ℕ, ◌≤◌, List, [], ◌∷◌, ◌++◌, length, map, Option, refl, lit≤, rules}
use Rattle.clk_packet.specs.declared.packet.Packet.{Packet}
use Rattle.clk_sched.specs.declared.visit.Visit.{Visit}
use Rattle.clk_sched.specs.Log.{pulls, moment_of, NeverFalls}
use Rattle.clk_sched.specs.Run.{IsRun}
use Rattle.clk_sched.specs.Step.{IsNextPull}
use Rattle.clk_sched.specs.Examples.Draining.{over_queue, pull_giving, first_two}
use Rattle.clk_sched.proofs.Runs.GoesOn.{goes-on}

-- Such a run goes on by each pull of the next number, at a moment that is no earlier.
pub goes-on-giving : (q k t : ℕ) (o : Option Packet) (log : List Visit) → IsRun (over_queue q) log → k ≡ length (pulls log) → NeverFalls 0 (map moment_of (pulls log ++ pull_giving k t o ∷ []))
    → IsRun (over_queue q) (log ++ pull_giving k t o)
goes-on-giving q k t o log run number moments = ((goes-on (over_queue q)).step log (pull_giving k t o) run next).run
  where
    next : IsNextPull (over_queue q) log (pull_giving k t o)
    next = search rules

-- the run of its first two pulls
pub run-of-two : (q : ℕ) → IsRun (over_queue q) first_two
run-of-two q = search rules

-- the runs of these and of one or two pulls more
pub run-of-three : (q m : ℕ) (o : Option Packet) → 5 ≤ m → IsRun (over_queue q) (first_two ++ pull_giving 2 m o)
run-of-three q m o l = goes-on-giving q 2 m o first_two (run-of-two q) refl (lit≤ tt, (lit≤ tt, (l, tt)))

pub run-of-four : (q m n : ℕ) (o p : Option Packet) → 5 ≤ m → m ≤ n → IsRun (over_queue q) (first_two ++ pull_giving 2 m o ++ pull_giving 3 n p)
run-of-four q m n o p l k = goes-on-giving q 3 n p (first_two ++ pull_giving 2 m o) (run-of-three q m o l) refl (lit≤ tt, (lit≤ tt, (l, (k, tt))))
