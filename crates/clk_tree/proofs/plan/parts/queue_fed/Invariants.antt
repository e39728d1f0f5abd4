use Rattle.std.proofs.Common.{◌≡◌, ◌≤◌, ◌+◌, map, drop}
use Rattle.clk_tree.specs.Elements.{planned}
use Rattle.clk_tree.specs.PlanParts.{queue_fed}
use Rattle.clk_tree.proofs.plan.parts.queue_fed.Given as goal

-- the queues so far, none of which is fed, and those in what is left before the one that is
abbrev pub invariant-loop-element : goal.invariant-loop-element
invariant-loop-element l = record {
  all : l.queue + queue_fed (map planned (drop l.element-index l.elements)) l.place ≡ queue_fed (map planned l.elements) l.place;
  bound : l.queue ≤ l.element-index;
}
