use Rattle.std.specs.Prelude.{◌≡◌, ◌++◌, map, drop}
use Rattle.clk_tree.specs.Elements.{planned}
use Rattle.clk_lint.specs.inside.Kept.{plan_in, trace_in}
use Rattle.clk_lint.specs.Warnings.{warnings_from}
use Rattle.clk_lint.proofs.find.warnings.Given as goal

-- what is found and what is left to find are all
abbrev pub invariant-loop-place : goal.invariant-loop-place
invariant-loop-place l =
    l.found.items ++ warnings_from (plan_in l.judged) (trace_in l.judged) l.place (map planned (drop l.place l.elements))
    ≡ warnings_from (plan_in l.judged) (trace_in l.judged) 0 (map planned l.elements)
