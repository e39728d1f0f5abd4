use Rattle.std.proofs.Common.{◌≤◌, subst}
use Rattle.std.specs.List.{AllByRecursion}
use Rattle.clk_packet.specs.declared.limits.TheConstants.{MAX_ELEMENTS}
use Rattle.clk_tree.specs.PlanParts.{HasNumber}
use Rattle.clk_router.specs.Events.{plan_setup}
use Rattle.clk_script.proofs.Record.Plans.{plan-records-mean}
use Rattle.clk_script.proofs.laws.records_of_plans_mean_their_course.Goals as goal

pub returns : goal.returns
returns c = λ trees are.
    plan-records-mean c.args.plan.now trees are (subst (AllByRecursion HasNumber) c.senders-senders.ensures.senders c.senders-senders.ensures.numbers)
    (subst (λ n. n ≤ MAX_ELEMENTS) c.devices-devices.ensures.count c.devices-devices.ensures.within) (c.records_mean_their_course.ensures.course (plan_setup trees c.args.plan.now))
