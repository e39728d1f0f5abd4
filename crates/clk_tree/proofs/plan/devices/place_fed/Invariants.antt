use Rattle.std.proofs.Common.{◌≡◌, ◌≤◌, ◌+◌, map, drop}
use Rattle.clk_tree.specs.Elements.{planned}
use Rattle.clk_tree.specs.PlanPaths.{place_fed}
use Rattle.clk_tree.proofs.plan.devices.place_fed.Given as goal

-- none of the elements so far is the one
abbrev pub invariant-loop-element : goal.invariant-loop-element
invariant-loop-element l = record {
  all : l.fed + place_fed (map planned (drop l.element-index l.elements)) l.place ≡ place_fed (map planned l.elements) l.place;
  bound : l.fed ≤ l.element-index;
}
