use Rattle.std.proofs.Common.{◌≡◌, map, take}
use Rattle.clk_tree.specs.declared.plan.parts.SenderSpec.{SenderSpec}
use Rattle.clk_tree.specs.Elements.{planned}
use Rattle.clk_tree.specs.PlanParts.{name_of_sender}
use Rattle.clk_tree.proofs.plan.parts.names_of.Given as goal

abbrev pub invariant-loop-sender : goal.invariant-loop-sender
invariant-loop-sender l = map (λ n. n.items) l.names.items ≡ map (λ (s : SenderSpec). name_of_sender s.number (map planned l.elements)) (take l.sender-index l.senders)
