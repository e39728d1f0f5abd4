use Rattle.std.proofs.Common.{◌≡◌, drop}
use Rattle.clk_sched.specs.inside.Quanta.{most_rounds}
use Rattle.clk_sched.proofs.tree.bound.rounds_of.Given as goal

-- the most rounds for those that were seen, and for those that are left
abbrev pub invariant-loop-quantum : goal.invariant-loop-quantum
invariant-loop-quantum l = most_rounds l.most (drop l.quantum-index l.quanta) ≡ most_rounds l.fn.most l.quanta
