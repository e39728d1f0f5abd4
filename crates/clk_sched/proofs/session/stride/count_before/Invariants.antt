use Rattle.clk_sched.proofs.Classes.RankLemmas.{StandBefore}
use Rattle.clk_sched.proofs.session.stride.count_before.Given as goal

abbrev pub invariant-loop-before : goal.invariant-loop-before
invariant-loop-before l = StandBefore l.rank l.others l.before
