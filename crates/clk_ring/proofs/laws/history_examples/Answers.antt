use Rattle.std.proofs.Common.{ap, map}
use Rattle.clk_packet.specs.declared.packet.Packet.{Packet}
use Rattle.clk_ring.proofs.laws.history_examples.Goals as goal

pub returns-clause-not_order_turned : goal.returns-clause-not_order_turned
returns-clause-not_order_turned c = λ history. let senders = ap (map (λ (p : Packet). p.sender)) history.3.3.3.0.order in absurd (cc)

pub returns-clause-not_other_given : goal.returns-clause-not_other_given
returns-clause-not_other_given c = λ history. let senders = ap (map (λ (p : Packet). p.sender)) history.3.3.order in absurd (cc)

pub returns-clause-not_newest_put_out : goal.returns-clause-not_newest_put_out
returns-clause-not_newest_put_out c = λ history. let senders = ap (map (λ (p : Packet). p.sender)) history.3.3.3.0.order in absurd (cc)
