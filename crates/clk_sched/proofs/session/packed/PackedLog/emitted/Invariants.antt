use Rattle.std.proofs.Common.{◌≡◌, ◌++◌, map, take}
use Rattle.clk_sched.specs.Packed.{unpacked}
use Rattle.clk_sched.specs.Results.{emitted}
use Rattle.clk_sched.proofs.session.packed.PackedLog.emitted.Given as goal

abbrev pub invariant-loop-visit : goal.invariant-loop-visit
invariant-loop-visit l = l.packets.items ≡ emitted (map unpacked (take l.visit-index l.visit-items))

abbrev pub invariant-loop-visit-2 : goal.invariant-loop-visit-2
invariant-loop-visit-2 l = l.packets.items ≡ emitted (map unpacked l.self.packed.items ++ take l.visit-index l.visit-items)
