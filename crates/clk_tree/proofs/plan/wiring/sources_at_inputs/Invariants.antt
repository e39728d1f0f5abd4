use Rattle.std.proofs.Common.{◌≡◌, map}
use Rattle.std.specs.List.{range_with_len}
use Rattle.clk_tree.specs.Plan.{source_at}
use Rattle.clk_tree.proofs.plan.wiring.sources_at_inputs.Given as goal

abbrev pub invariant-loop-input : goal.invariant-loop-input
invariant-loop-input l = l.sources.items ≡ map (source_at l.links l.place) (range_with_len 0 l.input)
