use Rattle.std.proofs.Common.{◌≡◌, map, take}
use Rattle.clk_sched.specs.Laws.Stride.{stride_of}
use Rattle.clk_sched.proofs.session.stride.strides_of.Given as goal

abbrev pub invariant-loop-count : goal.invariant-loop-count
invariant-loop-count l = l.strides.items ≡ map stride_of (take l.count-index l.tickets)
