use Rattle.std.proofs.Common.{map, length, sym, subst, ◌∙◌}
use Rattle.std.specs.List.{AllByRecursion}
use Rattle.clk_tree.specs.Elements.{planned}
use Rattle.clk_tree.specs.PlanParts.{number_of, queues_of, HasNumber, SendsWithin}
use Rattle.clk_packet.specs.Lists.{AreRising}
use Rattle.clk_tree.proofs.Denoted.PartLemmas.{senders-rising, senders-numbers, senders-wired}
use Rattle.clk_tree.proofs.plan.Plan.senders.Goals as goal

pub returns-clause-rising : goal.returns-clause-rising
returns-clause-rising c =
    subst (λ senders. AreRising (map number_of senders)) (sym (c.deref.ensures.value ∙ c.self.invariant.senders_are))
    (senders-rising c.self.invariant.denoted.0 (map planned c.self.inside.elements.items) c.self.invariant.denoted.1)

pub returns-clause-wired : goal.returns-clause-wired
returns-clause-wired c =
    subst (λ plan. AllByRecursion (SendsWithin (length (queues_of plan))) c.deref.result.now) c.self.view_is
    (subst (AllByRecursion (SendsWithin (length (queues_of (map planned c.self.inside.elements.items))))) (sym (c.deref.ensures.value ∙ c.self.invariant.senders_are))
    (senders-wired c.self.invariant.denoted.0 (map planned c.self.inside.elements.items) c.self.invariant.denoted.1))

pub returns-clause-numbers : goal.returns-clause-numbers
returns-clause-numbers c =
    subst (AllByRecursion HasNumber) (sym (c.deref.ensures.value ∙ c.self.invariant.senders_are))
    (senders-numbers c.self.invariant.denoted.0 (map planned c.self.inside.elements.items) c.self.invariant.denoted.1)
