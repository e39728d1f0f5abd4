use Rattle.std.proofs.Common.{◌<◌, ◌≤◌, length, map, subst}
use Rattle.std.specs.List.{AllByRecursion}
use Rattle.clk_packet.specs.declared.limits.TheConstants.{MAX_ELEMENTS}
use Rattle.clk_tree.specs.Elements.{planned}
use Rattle.clk_tree.specs.PlanTree.{device_count}
use Rattle.clk_tree.specs.PlanParts.{Queued, queues_of, HasCapacity}
use Rattle.clk_packet.specs.Lists.{AreRising}
use Rattle.clk_tree.proofs.Denoted.PartLemmas.{queues-capacities}
use Rattle.clk_tree.proofs.Denoted.LeafLemmas.{denoted-devices}
use Rattle.clk_tree.proofs.Denoted.QueueLaws.{queues-few, queues-rise}
use Rattle.clk_tree.proofs.plan.Plan.queues.Goals as goal

pub returns-clause-capacities : goal.returns-clause-capacities
returns-clause-capacities c =
    subst (λ plan. AllByRecursion HasCapacity (queues_of plan)) c.self.view_is
    (queues-capacities c.self.invariant.denoted.0 (map planned c.self.inside.elements.items) c.self.invariant.denoted.1)

pub returns-clause-devices : goal.returns-clause-devices
returns-clause-devices c =
    subst (λ plan. AllByRecursion (λ (q : Queued). q.device < device_count plan) (queues_of plan)) c.self.view_is
    (denoted-devices c.self.invariant.denoted.0 (map planned c.self.inside.elements.items) c.self.invariant.denoted.1)

pub returns-clause-few : goal.returns-clause-few
returns-clause-few c =
    subst (λ plan. length (queues_of plan) ≤ MAX_ELEMENTS) c.self.view_is
    (queues-few c.self.invariant.denoted.0 (map planned c.self.inside.elements.items) c.self.invariant.denoted.1)

pub returns-clause-senders : goal.returns-clause-senders
returns-clause-senders c =
    subst (λ plan. AllByRecursion (λ (q : Queued). AreRising q.senders) (queues_of plan)) c.self.view_is
    (queues-rise c.self.invariant.denoted.0 (map planned c.self.inside.elements.items) c.self.invariant.denoted.1)
