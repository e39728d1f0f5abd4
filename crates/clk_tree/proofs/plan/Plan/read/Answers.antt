use Rattle.std.proofs.Common.{◌≡◌, map, length, ◌≤◌, sym, ap, subst, ◌∙◌}
use Rattle.std.specs.List.{AllByRecursion}
use Rattle.clk_packet.specs.declared.limits.TheConstants.{MAX_ELEMENTS}
use Rattle.clk_tree.specs.Elements.{planned}
use Rattle.clk_tree.specs.PlanTree.{device_sources}
use Rattle.clk_tree.specs.PlanParts.{senders_of}
use Rattle.clk_tree.proofs.Denoted.PlanLemmas.{denoted-one, denoted-few}
use Rattle.clk_tree.proofs.plan.Plan.read.Goals as goal

pub tops_of-requires : goal.tops_of-requires
tops_of-requires c = record {
  one = subst (λ es. AllByRecursion (λ sources. length sources ≡ 1) (device_sources (map planned es))) (sym c.deref.ensures.value)
      (denoted-one c.args.text.now (map planned c.in_ok-elements.elements.items) c.in_ok-elements.ensures.denotes);
}

pub senders_of-requires : goal.senders_of-requires
senders_of-requires c = record { few = subst (λ es. length es ≤ MAX_ELEMENTS) (sym c.deref-2.ensures.value) (denoted-few c.args.text.now c.in_ok-elements.elements.items c.in_ok-elements.ensures.denotes) }

pub queues_of-requires : goal.queues_of-requires
queues_of-requires c = record {
  few = subst (λ es. length es ≤ MAX_ELEMENTS) (sym c.deref-3.ensures.value) (denoted-few c.args.text.now c.in_ok-elements.elements.items c.in_ok-elements.ensures.denotes);
  senders = c.deref-4.ensures.value ∙ c.in_ok-senders.ensures.made ∙ ap (λ es. senders_of (map planned es)) (c.deref-2.ensures.value ∙ sym c.deref-3.ensures.value);
}
