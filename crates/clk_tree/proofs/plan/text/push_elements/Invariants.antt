use Rattle.std.proofs.Common.{◌≡◌, ◌++◌, map, drop}
use Rattle.std.specs.List.{flat_map}
use Rattle.clk_tree.specs.Elements.{planned}
use Rattle.clk_tree.specs.Canonical.{element_text}
use Rattle.clk_tree.proofs.plan.text.push_elements.Given as goal

-- what is written and what is left to write are all
abbrev pub invariant-loop-element : goal.invariant-loop-element
invariant-loop-element l =
    l.text.items ++ flat_map element_text (map planned (drop l.element-index l.elements)) ≡ l.initial.text.items ++ flat_map element_text (map planned l.elements)
