use Rattle.std.proofs.Common.{◌≡◌, Some, slice_get, subst}
use Rattle.clk_router.proofs.AskLemmas.{found-at}
use Rattle.clk_router.proofs.DueLemmas.{backlog-at}
use Rattle.clk_router.proofs.queues.QueuesBacklog.is_backlogged.Goals as goal

pub returns-in-Some : goal.returns-in-Some
returns-in-Some c =
    let rings = c.args.self.now.rings.items in
    let here = found-at rings c.deref.result.now c.from.result c.in-Some.ring.now c.deref.ensures.value c.in-Some.ensures.lookup.3.0 c.in-Some.ensures.lookup.1 in
    backlog-at rings c.args.leaf c.in-Some.ring.now c.is_empty.result (subst (λ i. slice_get rings i ≡ Some c.in-Some.ring.now) c.from.ensures here) c.is_empty.ensures
