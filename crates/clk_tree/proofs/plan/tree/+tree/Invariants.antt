use Rattle.std.proofs.Common.{◌+◌, ◌*◌, map, drop}
use Rattle.clk_tree.specs.Elements.{planned}
use Rattle.clk_tree.proofs.Building.TreeLemmas.{AreSoFar}
use Rattle.clk_tree.proofs.plan.tree.+tree.Given as goal

abbrev pub decreases-tree_at : goal.decreases-tree_at
decreases-tree_at l = 2 * l.levels

abbrev pub decreases-trees_at : goal.decreases-trees_at
decreases-trees_at l = 2 * l.levels + 1

abbrev pub invariant-trees_at-loop-place : goal.invariant-trees_at-loop-place
invariant-trees_at-loop-place l = AreSoFar (map planned l.elements) l.levels l.places (drop l.place-index l.places) l.trees.items
