use Rattle.std.proofs.Common.{◌≡◌, ◌≤◌, ◌^◌, length, slice_get, ap, ◌∙◌, arith}
use Rattle.std.proofs.lemmas.List.{length-map}
use Rattle.clk_tree.specs.PlanParts.{number_of}
use Rattle.clk_router.specs.InsideQueues.{QueueGoesOn}
use Rattle.clk_live.proofs.Lists.{there}
use Rattle.clk_live.proofs.Openings.{kept-opened}
use Rattle.clk_live.proofs.live.Live.open.Goals as goal

pub invariant_of-live : goal.invariant_of-live
invariant_of-live c =
    let r = c.in_ok-router.router in
    let outlets = c.in_ok-inlets.outlets.items in
    let room = c.in_ok-tokens.ensures.room in
    let places : length outlets ≡ length r.setup.senders = c.in_ok-inlets.ensures.many ∙ ap length (rw c.deref.ensures at c.senders.ensures.numbers) ∙ length-map r.setup.senders number_of in
    let few : length outlets ≤ 2 ^ 16 = (let many = c.in_ok-inlets.ensures.many in let few = c.in_ok-inlets.ensures.few in omega (arith, many, few)) in
    kept-opened c.args.plan.now r outlets c.in_ok-tokens.tokens.items room.0 c.in_ok-router.ensures.opened places few (rw c.senders-senders.ensures.senders at c.senders-senders.ensures.wired) c.in_ok-inlets.ensures.taken room.1 room.2
    c.trees_share_queues.ensures c.queues-queues.ensures.devices
    (λ q queue is. let goes = there (QueueGoesOn r.setup r.events q queue) (slice_get r.setup.trees queue.device) ((rw c.deref-2.ensures at c.queues_go_on.ensures).each r.events q queue (rw c.deref-3.ensures at c.has_happened.ensures) is) in (goes.0, goes.1))
