use Rattle.clk_sched.specs.inside.Making.{GoesOnInVain}
use Rattle.clk_sched.proofs.session.drr.Deficits.pass_over_idle.Given as goal

abbrev pub invariant-loop-count : goal.invariant-loop-count
invariant-loop-count g l = GoesOnInVain g.Q.Ask.gives l.initial.nodes l.nodes l.fn.q l.node l.initial.self l.self l.count
