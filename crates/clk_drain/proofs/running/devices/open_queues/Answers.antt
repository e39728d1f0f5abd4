use Rattle.std.proofs.Common.{◌≡◌, sym, subst, arith, rules}
use Rattle.clk_tree.specs.PlanParts.{queued, queues_of}
use Rattle.clk_drain.proofs.Threads.DeviceSteps.{IsQueueOf, queue-of, opened-more, opened-same}
use Rattle.clk_drain.proofs.running.devices.open_queues.Goals.{then-queue-device+in_ok-open_queue, else-queue-device}
use Rattle.clk_drain.proofs.running.devices.open_queues.Goals as goal

pub open_queue-requires-clause-capacity : goal.open_queue-requires-clause-capacity
open_queue-requires-clause-capacity c =
    let plan = c.queues-queue-items in
    (queue-of plan.result.now (queues_of c.args.plan.now) c.loop-queue.queue-index c.queue-item.result plan.ensures.queues plan.ensures.capacities plan.ensures.senders (omega arith) c.queue-item.is).capacity

pub open_queue-requires-clause-rising : goal.open_queue-requires-clause-rising
open_queue-requires-clause-rising c =
    let plan = c.queues-queue-items in
    (queue-of plan.result.now (queues_of c.args.plan.now) c.loop-queue.queue-index c.queue-item.result plan.ensures.queues plan.ensures.capacities plan.ensures.senders (omega arith) c.queue-item.is).rises

pub loop-queue-preserved : goal.loop-queue-preserved
loop-queue-preserved c =
    let plan = c.queues-queue-items in
    let leaf = c.loop-queue.leaf in
    let planned = queues_of c.args.plan.now in
    let q = queued c.queue-item.result in
    let same : leaf ≡ c.loop-queue.queue-index = c.loop-queue.invariant.1 in
    let at : IsQueueOf planned leaf q =
    subst (λ n. IsQueueOf planned n q) (sym same) (search (rules, queue-of)) in
    search (rules, then-queue-device+in_ok-open_queue, opened-more, else-queue-device, opened-same)
