use Rattle.std.proofs.Common.{refl, sym, ap, subst, ◌+◌, ◌∙◌}
use Rattle.clk_tree.proofs.Building.QueueSteps.{AreQueues, queue-added, queue-passed}
use Rattle.clk_tree.proofs.plan.parts.queues_of.Goals as goal
use Rattle.clk_tree.proofs.plan.parts.queues_of.Goals.{in-Queue+in_ok-senders_to+in_ok-push, in_default}

pub loop-place-preserved : goal.loop-place-preserved
loop-place-preserved c = elim c.match-elements-place.branch [
  | in-Queue+in_ok-senders_to+in_ok-push w ↦ subst (λ n. AreQueues c.args.elements.now (c.loop-place.place + 1) n c.match-elements-place.queues.items) (sym w.number-is)
      (queue-added c.args.elements.now c.loop-place.place c.loop-place.number w.in-Queue.capacity w.device_of.result w.in-Queue.kind _ c.args.senders.now w.in_ok-senders_to.field-0.items _ c.loop-place.queues.items
      c.match-elements-place.queues.items c.loop-place-test.true w.in-Queue.is c.requires.senders w.in_ok-senders_to.ensures.made w.device_of.ensures (ap (λ v. v.items) w.queues-is ∙ w.in_ok-push.ensures.items) refl
      c.loop-place.invariant)
  | in_default w ↦ subst (λ n. AreQueues c.args.elements.now (c.loop-place.place + 1) n c.match-elements-place.queues.items) (sym w.number-is)
      (subst (λ v. AreQueues c.args.elements.now (c.loop-place.place + 1) c.loop-place.number v.items) (sym w.queues-is)
      (queue-passed c.args.elements.now c.loop-place.place c.loop-place.number _ c.loop-place.queues.items c.loop-place-test.true w.in_default.not-Queue c.loop-place.invariant))
]
