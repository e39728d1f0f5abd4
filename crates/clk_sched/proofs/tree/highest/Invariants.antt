use Rattle.std.proofs.Common.{◌≡◌, max, drop}
use Rattle.clk_sched.specs.Tree.{height, IsWellFormed}
use Rattle.clk_sched.specs.Built.{row}
use Rattle.clk_sched.proofs.tree.highest.Given as goal

abbrev pub invariant-loop-tree : goal.invariant-loop-tree
invariant-loop-tree l =
    (height (row l.trees) ≡ max l.highest (height (row (drop l.tree-index l.trees)))) × (IsWellFormed (row (drop l.tree-index l.trees)) → IsWellFormed (row l.trees))
