use Rattle.std.proofs.Common.{◌≡◌, map, take}
use Rattle.clk_sched.specs.inside.Holds.Served.{waiting}
use Rattle.clk_sched.proofs.session.drr.all_waiting.Given as goal

abbrev pub invariant-loop-quantum : goal.invariant-loop-quantum
invariant-loop-quantum l = l.row.items ≡ map waiting (take l.quantum-index l.quanta)
