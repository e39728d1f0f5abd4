use Rattle.std.specs.List.{AllZip}
use Rattle.clk_live.specs.Sending.{HasSent}
use Rattle.clk_live_tests.proofs.returning.join_all.Given as goal

abbrev pub invariant-loop-handle : goal.invariant-loop-handle
invariant-loop-handle g l = AllZip (λ h i. HasSent h.promise.inlet.value h.promise.packets.value.items i) l.yielded l.inlets.items
