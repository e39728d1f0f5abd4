use Rattle.std.proofs.Common.{◌≡◌, map, take}
use Rattle.clk_tree.specs.PlanParts.{queued}
use Rattle.clk_router.specs.inside.Parts.{path_made}
use Rattle.clk_router.proofs.parts.paths_of.Given as goal

abbrev pub invariant-loop-spec : goal.invariant-loop-spec
invariant-loop-spec l = l.paths.items ≡ map path_made (map queued (take l.spec-index l.specs))
