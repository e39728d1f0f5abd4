use Rattle.std.proofs.Common.{rules}
use Rattle.clk_sched.proofs.Trees.TreeBound.{bound-low}
use Rattle.clk_sched.proofs.tree.Tree.closing_bound_is_low.Goals as goal

pub returns : goal.returns
returns c left few = search (rules, bound-low)
