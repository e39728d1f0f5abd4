use Rattle.std.proofs.Common.{◌≡◌, ◌≤◌, ◌+◌, map, take, drop}
use Rattle.clk_tree.specs.Elements.{planned}
use Rattle.clk_tree.specs.PlanTree.{device_count}
use Rattle.clk_tree.proofs.plan.devices.devices_before.Given as goal

-- the devices so far and those in what is left are all before the place
abbrev pub invariant-loop-element : goal.invariant-loop-element
invariant-loop-element l = record {
  all : l.count + device_count (map planned (drop l.element-index (take l.end l.elements))) ≡ device_count (map planned (take l.end l.elements));
  bound : l.count ≤ l.element-index;
}
