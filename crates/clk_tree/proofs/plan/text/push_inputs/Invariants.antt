use Rattle.std.proofs.Common.{◌≡◌, ◌++◌, map, drop}
use Rattle.clk_tree.specs.Elements.{planned}
use Rattle.clk_tree.specs.Canonical.{inputs_text}
use Rattle.clk_tree.proofs.plan.text.push_inputs.Given as goal

-- what is written and what is left to write are all
abbrev pub invariant-loop-input : goal.invariant-loop-input
invariant-loop-input l =
    l.text.items ++ inputs_text (map planned l.elements) l.name l.input (drop l.input l.sources)
    ≡ l.initial.text.items ++ inputs_text (map planned l.elements) l.name 0 l.sources
