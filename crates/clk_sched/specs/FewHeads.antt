-- How many packets of one queue a tree can hold as heads at a time.
use Rattle.std.specs.Prelude.{ℕ, ◌+◌, ◌≤◌, List, length, if◌then◌else◌}
use Rattle.clk_packet.specs.Lists.{stands_in}
use Rattle.clk_sched.specs.declared.visit.Visit.{Visit}
use Rattle.clk_packet.specs.Scheduler.{Scheduler, drr}
use Rattle.clk_sched.specs.Tree.{Row, end, leaf, node, Tree, root, leaves}
use Rattle.clk_sched.specs.Results.{traced_heads}
use Rattle.clk_sched.specs.Conservation.{from_queue}

-- how many packets of one queue a scheduler holds as heads at most: one if it is a DRRSched, else none
abbrev pub most_heads : Scheduler → ℕ
most_heads (drr quanta) = 1
most_heads class = 0

-- how many DRRScheds stand above a queue in a row
abbrev pub drrs_above : ℕ → Row → ℕ
drrs_above q end = 0
drrs_above q (leaf k row) = drrs_above q row
drrs_above q (node class inputs row) = if stands_in q (leaves inputs) then most_heads class + drrs_above q inputs else drrs_above q row

-- In any log, a tree holds no more heads of a queue than DRRScheds stand above the queue.
abbrev pub HoldsFewHeads : Tree → Type 0
HoldsFewHeads tree = (log : List Visit) (q : ℕ) → length (from_queue q (traced_heads tree log)) ≤ drrs_above q (root tree)
