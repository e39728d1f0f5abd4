use Rattle.std.proofs.Common.{[], ◌∷◌, length, Some, refl, ap, arith, rules}
use Rattle.std.proofs.lemmas.Bool.{false≢true, true≢false}
use Rattle.clk_packet.specs.declared.packet.Kind.TheVariants.{TailDrop}
use Rattle.clk_sched.specs.Examples.Priority.{p0_0}
use Rattle.clk_sched.specs.Log.{asking}
use Rattle.clk_router.specs.Events.{CanHappen}
use Rattle.clk_router.specs.SettledExamples.{crossed, without_tree, without_queue, left_inside, emitted_elsewhere, stranger_emitted, p7_0}
use Rattle.clk_router.proofs.examples.out_examples.Goals as goal

pub returns-clause-not_never_offered : goal.returns-clause-not_never_offered
returns-clause-not_never_offered c = λ o. let below = o.0.was_offered 0 refl in absurd (omega (arith, below))

pub returns-clause-not_all_out : goal.returns-clause-not_all_out
returns-clause-not_all_out c = λ o. absurd (false≢true (o.0 0))

pub returns-clause-not_all_offered : goal.returns-clause-not_all_offered
returns-clause-not_all_offered c = λ o. absurd (true≢false (o.0 0))

pub returns-clause-not_lost : goal.returns-clause-not_lost
returns-clause-not_lost c = λ o. absurd (false≢true (o.0.all 0))

pub returns-clause-not_more_than_offered : goal.returns-clause-not_more_than_offered
returns-clause-not_more_than_offered c = λ o. absurd (true≢false (o.0.all 0))

crossed-offered : CanHappen crossed left_inside
crossed-offered = search rules

crossed-emitted : CanHappen crossed emitted_elsewhere
crossed-emitted = search rules

pub returns-clause-not_crossed : goal.returns-clause-not_crossed
returns-clause-not_crossed c = λ o. let first = (o.each left_inside 0 (record { kind = TailDrop; capacity = 2; device = 0 }) crossed-offered refl).pulled_on 1 0 (asking 0 0 0 0 (Some p0_0) ∷ []) crossed-emitted in absurd (omega (arith, ap length first))

without-tree : CanHappen without_tree []
without-tree = search rules

pub returns-clause-not_without_tree : goal.returns-clause-not_without_tree
returns-clause-not_without_tree c = λ o. absurd (o.each [] 0 (record { kind = TailDrop; capacity = 2; device = 0 }) without-tree refl)

without-queue : CanHappen without_queue stranger_emitted
without-queue = search rules

pub returns-clause-not_without_queue : goal.returns-clause-not_without_queue
returns-clause-not_without_queue c = λ o. absurd (false≢true (o.of_senders [] 0 0 (asking 0 0 0 0 (Some p7_0) ∷ []) without-queue))
