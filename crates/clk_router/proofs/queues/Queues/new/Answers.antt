use Rattle.std.proofs.Common.{ap, ◌∙◌, length, map, take, length-take, arith}
use Rattle.std.proofs.lemmas.List.{length-map}
use Rattle.clk_tree.specs.PlanParts.{queued}
use Rattle.clk_router.specs.inside.Queues.{packets_at, queue_made}
use Rattle.clk_router.proofs.PartsLemmas.{capacity-at, made-hold-none}
use Rattle.clk_router.proofs.queues.Queues.new.Goals as goal

pub new-requires : goal.new-requires
new-requires c = record { capacity = capacity-at c.args.specs.now c.loop-spec.spec-index c.spec-item.result c.requires.capacities c.loop-spec-test.true c.spec-item.is }

pub invariant_of-result : goal.invariant_of-result
invariant_of-result c =
    let made = c.loop-spec.invariant in
    let count = ap length made ∙ length-map (map queued (take c.loop-spec.spec-index c.args.specs.now)) queue_made ∙ length-map (take c.loop-spec.spec-index c.args.specs.now) queued in
    let room = c.in_ok-filled.ensures.room in
    let few = length-take c.loop-spec.spec-index c.args.specs.now in
    record { filled_are = (omega (arith, count, room, few), λ q out. ap (λ queues. packets_at queues q) made ∙ made-hold-none (map queued (take c.loop-spec.spec-index c.args.specs.now)) q) }
