use Rattle.std.proofs.Common.{[], map, sym, ap, ap₂, subst, ◌∙◌}
use Rattle.clk_packet.specs.Lists.{AreRising}
use Rattle.clk_tree.specs.PlanParts.{queued, number_of, sender_names}
use Rattle.clk_router.specs.Events.{plan_setup}
use Rattle.clk_router.specs.inside.Closable.{IsClosable}
use Rattle.clk_router.specs.inside.Parts.{setup_of}
use Rattle.clk_router.proofs.Callers.Plans.{setup-by-paths}
use Rattle.clk_router.proofs.NeverShort.{plan-closable}
use Rattle.clk_router.proofs.PlanLemmas.{plan-whole}
use Rattle.clk_router.proofs.RouterLemmas.{trees-its, Stand-made}
use Rattle.clk_router.proofs.router.Router.open.Goals as goal

pub new-requires-clause-whole : goal.new-requires-clause-whole
new-requires-clause-whole c = λ names.
    plan-whole names c.args.plan.now c.in_ok-trees.trees.items (map queued c.queues-queues.result.now) c.senders-senders.result.now c.in_ok-trees.ensures.trees c.in_ok-trees.ensures.some c.in_ok-trees.ensures.few c.queues-queues.ensures.queues
    c.senders-senders.ensures.rising c.senders-senders.ensures.wired c.queues-queues.ensures.devices c.queues-queues.ensures.few c.queues-queues.ensures.capacities

pub invariant_of-result : goal.invariant_of-result
invariant_of-result c =
    let plan = c.args.plan.now in
    let trees = c.in_ok-trees.trees.items in
    let parts = c.in_ok-parts.parts in
    let names = sender_names plan in
    let made = setup_of names trees (map queued c.queues-queues.result.now) c.senders-senders.result.now in
    let shared = c.trees_share_queues.ensures trees c.in_ok-trees.ensures.trees in
    let same = ap₂ (setup_of names trees) c.queues-queues.ensures.queues c.senders-senders.ensures.senders ∙ sym (setup-by-paths plan trees c.in_ok-trees.ensures.trees shared c.queues-queues.ensures.devices) in
    let its = trees-its made [] parts (c.in_ok-parts.ensures.at names) in
    let whole =
    plan-whole names plan trees (map queued c.queues-queues.result.now) c.senders-senders.result.now c.in_ok-trees.ensures.trees c.in_ok-trees.ensures.some c.in_ok-trees.ensures.few c.queues-queues.ensures.queues c.senders-senders.ensures.rising
    c.senders-senders.ensures.wired c.queues-queues.ensures.devices c.queues-queues.ensures.few c.queues-queues.ensures.capacities
    in
    let rising = subst (λ senders. AreRising (map number_of senders)) c.senders-senders.ensures.senders c.senders-senders.ensures.rising in
    let closable = subst IsClosable (sym same) (plan-closable plan trees c.in_ok-trees.ensures.trees shared rising c.queues-queues.ensures.devices c.in_ok-trees.ensures.each) in
    Stand-made made _ c.begin.new.self parts (ap (λ ts. plan_setup ts plan) its ∙ sym same) c.begin.ensures (record { at = c.in_ok-parts.ensures.at names; whole = whole; closable = closable })

pub returns-clause-opened : goal.returns-clause-opened
returns-clause-opened c =
    let plan = c.args.plan.now in
    let trees = c.in_ok-trees.trees.items in
    let its = trees-its _ [] c.in_ok-parts.parts (c.in_ok-parts.ensures.at []) in
    let told = c.begin.ensures ∙ ap (λ ts. record { setup = plan_setup ts plan; events = [] }) its in
    let keeps = c.in_ok-parts.ensures.keeps in
    record { trees = trees; are = c.in_ok-trees.ensures.trees; is = λ i. record { setup = (told i).setup; events = (told i).events; keeps = keeps i } }
