use Rattle.std.proofs.Common.{map, subst}
use Rattle.clk_packet.specs.Lists.{AreRising}
use Rattle.clk_tree.specs.PlanParts.{number_of}
use Rattle.clk_drain.proofs.Plans.PlanSenders.{queues-apart}
use Rattle.clk_drain.proofs.Runs.Accounted.{runs-account}
use Rattle.clk_drain.proofs.laws.runs_account_for_emitted.Goals as goal

pub returns : goal.returns
returns c =
    runs-account c.args.plan.now c.trees_share_queues.ensures c.queues.ensures.devices
    (queues-apart c.args.plan.now (subst (λ senders. AreRising (map number_of senders)) c.senders.ensures.senders c.senders.ensures.rising))
