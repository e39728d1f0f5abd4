use Rattle.std.proofs.Common.{[], ◌∷◌, map, ap}
use Rattle.clk_packet.specs.declared.packet.Packet.{Packet}
use Rattle.clk_packet.proofs.Callers.Dealt.{dealt-none}
use Rattle.clk_sched.specs.Examples.Priority.{p0_0}
use Rattle.clk_drain.specs.Examples.{p0_1}
use Rattle.clk_drain.proofs.examples.outcome_examples.Goals as goal

pub returns-clause-not_swapped_by_device : goal.returns-clause-not_swapped_by_device
returns-clause-not_swapped_by_device c = λ o. let numbers = ap (map (λ (p : Packet). p.number)) o.settled.0.emitted in absurd (cc)

pub returns-clause-not_swapped_by_queue : goal.returns-clause-not_swapped_by_queue
returns-clause-not_swapped_by_queue c =
    λ o. let numbers = ap (map (λ (p : Packet). p.number)) (dealt-none (p0_0 ∷ p0_1 ∷ []) (p0_1 ∷ p0_0 ∷ []) o.settled.0.queues.0.each.0.accepted_are) in absurd (cc)

pub returns-clause-not_senders_swapped : goal.returns-clause-not_senders_swapped
returns-clause-not_senders_swapped c = λ o. let senders = ap (map (λ (p : Packet). p.sender)) o.settled.1.0.emitted in absurd (cc)

pub returns-clause-not_exchanged : goal.returns-clause-not_exchanged
returns-clause-not_exchanged c = λ o. let senders = ap (map (λ (p : Packet). p.sender)) o.settled.0.queues.0.given in absurd (cc)
