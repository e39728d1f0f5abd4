use Rattle.std.specs.Prelude.{◌≡◌, map, take, length}
use Rattle.clk_live_run.proofs.senders.senders_of.Given as goal

abbrev pub invariant-loop-inlet : goal.invariant-loop-inlet
invariant-loop-inlet l = (map (λ s. s.inlet) l.senders.items ≡ l.yielded) × (map (λ s. s.number) l.senders.items ≡ take (length l.yielded) l.numbers)
