use Rattle.std.proofs.Common.{◌≡◌, map, take}
use Rattle.clk_sched.specs.Packed.{unpacked}
use Rattle.clk_sched.proofs.session.packed.PackedLog.into_vec.Given as goal

abbrev pub invariant-loop-visit : goal.invariant-loop-visit
invariant-loop-visit l = l.visits.items ≡ map unpacked (take l.visit-index l.visit-items)
