use Rattle.clk_sched.specs.inside.Looking.{HoldsNoneAhead}
use Rattle.clk_sched.proofs.session.drr.Deficits.count_without_heads.Given as goal

abbrev pub invariant-loop-count : goal.invariant-loop-count
invariant-loop-count l = HoldsNoneAhead l.fn.self l.count
