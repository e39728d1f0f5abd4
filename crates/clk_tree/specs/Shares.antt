-- How the queues of a plan are shared out among its trees (this project's own choice).
use Rattle.std.specs.Prelude.{◌≡◌, ℕ, List, length, nat_lt, true, Some, slice_get}
use Rattle.std.specs.List.{flat_map}
use Rattle.clk_packet.specs.Lists.{stands_in, are_distinct}
use Rattle.clk_sched.specs.Tree.{Tree, root, leaves}
use Rattle.clk_tree.specs.Plan.{Planned}
use Rattle.clk_tree.specs.PlanTree.{device_count, IsTreeOf}
use Rattle.clk_tree.specs.PlanParts.{Queued}

-- the trees of a plan, one for each device, by its number
pub record AreTreesOf (plan : List Planned) (trees : List Tree) : Type 0 where
  pub count : length trees ≡ device_count plan
  pub each : (d : ℕ) (tree : Tree) → slice_get trees d ≡ Some tree → IsTreeOf plan d tree

-- the leaves of all trees
abbrev pub all_leaves : List Tree → List ℕ
all_leaves trees = flat_map (λ (tree : Tree). leaves (root tree)) trees

-- The leaves of the trees together are the numbers of the queues, each once, and each queue is a leaf of the tree of its device.
pub record AreSharedOut (queues : List Queued) (trees : List Tree) : Type 0 where
  pub all : (q : ℕ) → stands_in q (all_leaves trees) ≡ nat_lt q (length queues)
  pub once : are_distinct (all_leaves trees) ≡ true
  pub own : (q : ℕ) (queue : Queued) (tree : Tree) → slice_get queues q ≡ Some queue → slice_get trees queue.device ≡ Some tree → stands_in q (leaves (root tree)) ≡ true
