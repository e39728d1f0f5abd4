-- How many pulls a drain of a tree makes at most (this project's own bound).
use Rattle.std.specs.Prelude.{ℕ, ◌+◌, ◌*◌, ◌-◌, ◌/◌, List, [], map, fold, max}
use Rattle.std.specs.List.{flat_map}
use Rattle.clk_packet.specs.declared.limits.TheConstants.{MAX_LENGTH}
use Rattle.clk_packet.specs.Scheduler.{Scheduler, drr}
use Rattle.clk_sched.specs.Tree.{Tree, PlacedScheduler, schedulers_of, root, height}

-- the quanta of a scheduler; only a DRRSched has any
abbrev pub quanta_of : Scheduler → List ℕ
quanta_of (drr quanta) = quanta
quanta_of class = []

-- the rounds that a packet may need at an input with this quantum: the greatest length over the quantum, rounded up, plus 1
abbrev pub rounds_for : ℕ → ℕ
rounds_for quantum = 1 + (MAX_LENGTH + (quantum - 1)) / quantum

-- the most rounds that a packet may need at an input of a tree: 1 without a DRRSched
abbrev pub rounds : Tree → ℕ
rounds tree = fold max 1 (map rounds_for (flat_map (λ (n : PlacedScheduler). quanta_of n.class) (schedulers_of tree)))

-- the closing bound, which is how many pulls a drain makes at most: packets left, times schedulers on the longest path plus 1, times rounds
abbrev pub closing_bound : Tree → ℕ → ℕ
closing_bound tree packets = packets * (height (root tree) + 1) * rounds tree
