use Rattle.std.specs.Prelude.{◌≡◌}
use Rattle.clk_ruled.specs.Queue.{IsTapOf}
use Rattle.clk_ruled_tests.proofs.threads.pull_all.Given as goal

abbrev pub invariant-loop : goal.invariant-loop
invariant-loop g l =
    (goal.iterator-loop g).can_next l.iterator' × (goal.iterator-loop g).is_finite l.iterator' × IsTapOf l.queue l.tap × (l.tap.id ≡ l.fn.tap.id) × (l.tap.setup ≡ l.fn.tap.setup)
