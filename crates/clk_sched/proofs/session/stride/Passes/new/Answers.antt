use Rattle.std.proofs.lemmas.Grind.{common_steps}
use Rattle.std.proofs.Common.{◌∙◌, length, ap, arith}
use Rattle.std.proofs.lemmas.List.{length-map}
use Rattle.std.proofs.lemmas.List.FromFn.{length-map-range_with_len}
use Rattle.clk_sched.specs.inside.Ranks.{first_rank}
use Rattle.clk_sched.proofs.Classes.StridePasses.{passes-first, first-ranks, first-least, first-rises, strides-bounded}
use Rattle.clk_sched.proofs.session.stride.Passes.new.Goals as goal

pub invariant_of-result : goal.invariant_of-result
invariant_of-result c = grind (arith, common_steps, length-map, first-ranks, first-least, first-rises, strides-bounded)

pub returns-clause-holds : goal.returns-clause-holds
returns-clause-holds c = passes-first c.args.tickets.now _ c.in_ok-strides.ensures c.in_ok-row.ensures

pub returns-clause-inputs : goal.returns-clause-inputs
returns-clause-inputs c = ap length c.in_ok-row.ensures ∙ length-map-range_with_len first_rank 0 (length c.args.tickets.now)
