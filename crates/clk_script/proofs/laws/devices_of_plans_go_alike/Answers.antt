use Rattle.std.proofs.Common.{length, map, subst}
use Rattle.std.specs.List.{AllByRecursion}
use Rattle.clk_packet.specs.Lists.{AreRising}
use Rattle.clk_tree.specs.PlanParts.{queues_of, number_of, SendsWithin}
use Rattle.clk_router.specs.Events.{plan_setup}
use Rattle.clk_router.proofs.Callers.Plans.{plan-wired, plan-apart}
use Rattle.clk_script.proofs.Meanings.Apart.{devices-alike}
use Rattle.clk_script.proofs.laws.devices_of_plans_go_alike.Goals as goal

pub returns : goal.returns
returns c =
    let plan = c.args.plan.now in
    let wired = subst (AllByRecursion (SendsWithin (length (queues_of plan)))) c.senders-senders.ensures.senders c.senders-senders.ensures.wired in
    let rising = subst (λ senders. AreRising (map number_of senders)) c.senders-senders.ensures.senders c.senders-senders.ensures.rising in
    λ trees are.
    let shared = c.trees_share_queues.ensures trees are in
    devices-alike (plan_setup trees plan) (plan-wired plan trees shared wired) (plan-apart plan trees are shared rising c.queues-queues.ensures.devices) c.histories_leave_no_choice.ensures c.runs_leave_no_choice.ensures.pulls (λ tree. (c.runs_go_on.ensures tree).start)
