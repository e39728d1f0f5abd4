use Rattle.std.proofs.Common.{◌≡◌, ◌-◌, map, length, drop}
use Rattle.clk_tree.specs.Elements.{planned}
use Rattle.clk_tree.specs.inside.ByNumber.{by_number}
use Rattle.clk_tree.specs.inside.FromPlace.{senders_from}
use Rattle.clk_tree.proofs.plan.parts.senders_of.Given as goal

-- those among the elements that were looked at, which are the last
abbrev pub invariant-loop-back : goal.invariant-loop-back
invariant-loop-back l = l.senders.items ≡ by_number (senders_from (map planned l.elements) (length l.elements - l.back) (map planned (drop (length l.elements - l.back) l.elements)))
