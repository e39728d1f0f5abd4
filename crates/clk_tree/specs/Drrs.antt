-- How many DRRScheds stand above the queues of a plan.
use Rattle.std.specs.Prelude.{◌≡◌, ℕ, List, length, Some, slice_get}
use Rattle.clk_sched.specs.Tree.{Tree, root}
use Rattle.clk_sched.specs.FewHeads.{drrs_above}
use Rattle.clk_tree.specs.PlanParts.{Queued}

-- For each queue of a plan, by its number, this is how many DRRScheds stand above it in the tree of its device.
pub record AreDrrsAbove (queues : List Queued) (trees : List Tree) (counts : List ℕ) : Type 0 where
  pub count : length counts ≡ length queues
  pub each : (q : ℕ) (queue : Queued) (tree : Tree) → slice_get queues q ≡ Some queue → slice_get trees queue.device ≡ Some tree → slice_get counts q ≡ Some (drrs_above q (root tree))
