use Rattle.std.proofs.Common.{◌≡◌, ◌++◌, take, drop, map}
use Rattle.clk_sched.specs.inside.Ranks.{less}
use Rattle.clk_sched.proofs.session.stride.subtract.Given as goal

abbrev pub invariant-loop-rank : goal.invariant-loop-rank
invariant-loop-rank l = l.ranks ≡ map (less l.least) (take l.rank-index l.fn.ranks) ++ drop l.rank-index l.fn.ranks
