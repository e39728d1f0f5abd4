use Rattle.std.specs.Prelude.{◌≡◌, ◌++◌, map, drop}
use Rattle.clk_tree.specs.Elements.{planned}
use Rattle.clk_tree.specs.Plan.{Planned}
use Rattle.clk_lint.specs.Load.{longest_sent}
use Rattle.clk_lint.proofs.load.sent_by_each.Given as goal

-- what is found and what is left to find are all
abbrev pub invariant-loop-element : goal.invariant-loop-element
invariant-loop-element l =
    l.sent.items ++ map (λ (e : Planned). longest_sent l.traces e.class) (map planned (drop l.element-index l.elements))
    ≡ map (λ (e : Planned). longest_sent l.traces e.class) (map planned l.elements)
