use Rattle.std.proofs.Common.{map, ap, ◌∙◌, arith}
use Rattle.std.proofs.lemmas.List.{take_more}
use Rattle.clk_gate.specs.Sent.{sent_in}
use Rattle.clk_tree.specs.declared.plan.parts.SenderSpec.{SenderSpec}
use Rattle.clk_tree.specs.PlanParts.{number_of}
use Rattle.clk_live_run.proofs.Runs.{sent-more}
use Rattle.clk_live_run.proofs.running.count_sent.Goals as goal

pub loop-sender-preserved : goal.loop-sender-preserved
loop-sender-preserved c =
    let senders = c.args.senders.now in
    let i = c.loop-sender.sender-index in
    let none : SenderSpec = record { number = 0; queue = 0 } in
    let more = ap (λ (xs : _). sent_in c.args.traces.now (map number_of xs)) (take_more senders i none c.loop-sender-test.true) ∙ sent-more c.args.traces.now _ _ in
    let was = c.loop-sender.invariant in
    let count = c.count.ensures.count in
    let sum = c.saturating_add-count.ensures in
    let from = c.from.ensures in
    omega (arith, more, was, count, sum, from)
