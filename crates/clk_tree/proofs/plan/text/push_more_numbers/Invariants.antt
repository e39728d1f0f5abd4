use Rattle.std.proofs.Common.{◌≡◌, ◌++◌, map, drop, codes, decimal}
use Rattle.std.specs.List.{flat_map}
use Rattle.clk_tree.proofs.plan.text.push_more_numbers.Given as goal

-- what is written and what is left to write are all
abbrev pub invariant-loop-number : goal.invariant-loop-number
invariant-loop-number l =
    l.text.items ++ flat_map (λ word. codes ", " ++ word) (map decimal (drop l.number-index l.numbers))
    ≡ l.initial.text.items ++ flat_map (λ word. codes ", " ++ word) (map decimal l.numbers)
