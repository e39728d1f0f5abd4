use Rattle.std.proofs.Common.{◌≡◌, ◌≤◌, ◌+◌, map, take, drop}
use Rattle.clk_tree.specs.Elements.{planned}
use Rattle.clk_tree.specs.PlanTree.{queue_count}
use Rattle.clk_tree.proofs.plan.tree.queue_number.Given as goal

-- the queues so far and those in what is left are all before the place
abbrev pub invariant-loop-element : goal.invariant-loop-element
invariant-loop-element l = record {
  all : l.number + queue_count (map planned (drop l.element-index (take l.place l.elements))) ≡ queue_count (map planned (take l.place l.elements));
  bound : l.number ≤ l.element-index;
}
