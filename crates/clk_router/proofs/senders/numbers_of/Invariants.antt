use Rattle.std.proofs.Common.{◌≡◌, map, take}
use Rattle.clk_tree.specs.PlanParts.{number_of}
use Rattle.clk_router.proofs.senders.numbers_of.Given as goal

abbrev pub invariant-loop-spec : goal.invariant-loop-spec
invariant-loop-spec l = l.numbers.items ≡ map number_of (take l.spec-index l.specs)
