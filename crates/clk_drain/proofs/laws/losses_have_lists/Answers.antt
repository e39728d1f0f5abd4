use Rattle.std.proofs.Common.{map, subst}
use Rattle.clk_packet.specs.Lists.{AreRising}
use Rattle.clk_tree.specs.PlanParts.{number_of}
use Rattle.clk_drain.proofs.Plans.PlanSenders.{queues-apart}
use Rattle.clk_drain.proofs.Losses.LossLists.{losses-have-lists}
use Rattle.clk_drain.proofs.laws.losses_have_lists.Goals as goal

pub returns : goal.returns
returns c = losses-have-lists c.args.plan.now c.args.traces.now c.are_numbered.ensures (queues-apart c.args.plan.now (subst (λ senders. AreRising (map number_of senders)) c.senders.ensures.senders c.senders.ensures.rising)) c.queues.ensures.devices
