use Rattle.std.proofs.Common.{subst, length}
use Rattle.std.specs.List.{AllByRecursion}
use Rattle.clk_tree.specs.PlanParts.{queues_of, SendsWithin}
use Rattle.clk_router.specs.Events.{plan_setup}
use Rattle.clk_router.proofs.Callers.Plans.{plan-wired}
use Rattle.clk_script.proofs.Meanings.OneTree.{plan-one_meaning, plan-one_log}
use Rattle.clk_script.proofs.laws.plans_have_at_most_one_meaning.Goals as goal

pub returns-clause-texts : goal.returns-clause-texts
returns-clause-texts c =
    let plan = c.args.plan.now in
    let wired = subst (AllByRecursion (SendsWithin (length (queues_of plan)))) c.senders-senders.ensures.senders c.senders-senders.ensures.wired in
    λ script one other a b.
    plan-one_meaning plan script one other
    (λ trees are. c.scripts_have_at_most_one_meaning.ensures.wired (plan_setup trees plan) (plan-wired plan trees (c.trees_share_queues.ensures trees are) wired)) a b

pub returns-clause-logs : goal.returns-clause-logs
returns-clause-logs c =
    let plan = c.args.plan.now in
    let wired = subst (AllByRecursion (SendsWithin (length (queues_of plan)))) c.senders-senders.ensures.senders c.senders-senders.ensures.wired in
    λ script one other logs others a b.
    plan-one_log plan script one other logs others
    (λ trees are. c.scripts_have_at_most_one_meaning.ensures.logs (plan_setup trees plan) (plan-wired plan trees (c.trees_share_queues.ensures trees are) wired)) a b
