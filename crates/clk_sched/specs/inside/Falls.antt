-- Each child of a scheduler has fewer schedulers on its longest path.
use Rattle.std.specs.Prelude.{◌+◌, ◌≤◌, max, List, [], ◌∷◌}
use Rattle.std.proofs.Common.{arith}
use denote.Param.Weighed.{most}
use Rattle.clk_sched.specs.declared.tree.Node.{Node}
use Rattle.clk_sched.specs.declared.tree.Node.TheVariants.{Leaf, Inner}
use Rattle.clk_sched.specs.declared.tree.Tree.TheDeep.{deep-Node}
use Rattle.clk_sched.specs.Tree.{Tree, queue, scheduler, height}
use Rattle.clk_sched.specs.Built.{row, levels}
use Rattle.clk_sched.specs.inside.Kept.{kept}

most_le-height-row : (trees : List Tree) → most (λ t. levels t + 1) trees ≤ height (row trees) + 1
most_le-height-row [] = omega arith
most_le-height-row (queue q ∷ trees) = omega (arith, most_le-height-row trees)
most_le-height-row (scheduler class inputs ∷ trees) = omega (arith, most_le-height-row trees)

pub depth_le-levels : (n : Node) → max (deep-Node n) 0 ≤ levels (kept n)
depth_le-levels (Leaf q) = omega arith
depth_le-levels (Inner c children) = omega (arith, most_le-height-row children.items)
