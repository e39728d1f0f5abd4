use Rattle.std.proofs.Common.{◌≡◌, map, take}
use Rattle.clk_tree.specs.PlanParts.{queued}
use Rattle.clk_router.specs.inside.Queues.{queue_made}
use Rattle.clk_router.proofs.queues.Queues.new.Given as goal

abbrev pub invariant-loop-spec : goal.invariant-loop-spec
invariant-loop-spec l = l.rings.items ≡ map queue_made (map queued (take l.spec-index l.specs))
