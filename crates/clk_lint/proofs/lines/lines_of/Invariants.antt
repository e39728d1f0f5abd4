use Rattle.std.specs.Prelude.{◌≡◌, ◌++◌, map, drop}
use Rattle.std.specs.List.{flat_map}
use Rattle.clk_tree.specs.Elements.{planned}
use Rattle.clk_lint.specs.Lines.{warning_line}
use Rattle.clk_lint.proofs.lines.lines_of.Given as goal

-- what is written and what is left to write are all
abbrev pub invariant-loop-warning : goal.invariant-loop-warning
invariant-loop-warning l =
    l.text.items ++ flat_map (warning_line (map planned l.elements)) (drop l.warning-index l.found) ≡ flat_map (warning_line (map planned l.elements)) l.found
