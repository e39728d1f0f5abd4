use Rattle.std.proofs.Common.{◌≡◌, ◌++◌, ◌∷◌, [], map, length, drop}
use Rattle.std.specs.List.{AllByRecursion}
use Rattle.clk_tree.specs.Elements.{planned}
use Rattle.clk_tree.specs.PlanTree.{device_sources}
use Rattle.clk_tree.proofs.plan.tops_of.Given as goal

-- the elements so far and those at the devices in what is left, one at each, are all
abbrev pub invariant-loop-element : goal.invariant-loop-element
invariant-loop-element l = record {
  all : map (λ top. top ∷ []) l.tops.items ++ device_sources (map planned (drop l.element-index l.elements)) ≡ device_sources (map planned l.elements);
  one : AllByRecursion (λ sources. length sources ≡ 1) (device_sources (map planned (drop l.element-index l.elements)));
}
