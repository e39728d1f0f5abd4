use Rattle.std.specs.Prelude.{◌≡◌}
use Rattle.std.specs.List.{AllZip}
use Rattle.clk_live_tests.proofs.returning.start_all.Given as goal

abbrev pub invariant-loop-sender : goal.invariant-loop-sender
invariant-loop-sender g l = AllZip (λ s h. (h.promise.inlet.value ≡ s.inlet) × (h.promise.packets.value.items ≡ s.packets.items)) l.yielded l.handles.items
