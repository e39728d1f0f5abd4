use Rattle.std.specs.Prelude.{◌≡◌, map}
use Rattle.clk_live_tests.proofs.returning.senders_with.Given as goal

abbrev pub invariant-loop-inlet : goal.invariant-loop-inlet
invariant-loop-inlet g l = map (λ s. s.inlet) l.senders.items ≡ l.yielded
