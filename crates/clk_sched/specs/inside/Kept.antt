-- The tree that a node of the code stands for.
use Rattle.clk_packet.specs.Scheduler.{scheduler_view}
use Rattle.clk_sched.specs.Tree as tree
use Rattle.clk_sched.specs.Built.{row}
use Rattle.clk_sched.specs.declared.tree.Node.{Node}
use Rattle.clk_sched.specs.declared.tree.Node.TheVariants.{Leaf, Inner}

abbrev pub kept : Node → tree.Tree
kept (Leaf q) = tree.queue q
kept (Inner c children) = tree.scheduler (scheduler_view c) (row children.items)
