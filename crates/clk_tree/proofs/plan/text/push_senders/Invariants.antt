use Rattle.std.proofs.Common.{◌≡◌, ◌++◌, map, drop}
use Rattle.std.specs.List.{flat_map}
use Rattle.clk_tree.specs.Elements.{planned}
use Rattle.clk_tree.specs.Canonical.{connection_text}
use Rattle.clk_tree.proofs.plan.text.push_senders.Given as goal

-- what is written and what is left to write are all
abbrev pub invariant-loop-sender : goal.invariant-loop-sender
invariant-loop-sender l =
    l.text.items ++ flat_map (λ s. connection_text (map planned l.elements) s 0 l.name) (drop l.sender-index l.senders)
    ≡ l.initial.text.items ++ flat_map (λ s. connection_text (map planned l.elements) s 0 l.name) l.senders
