use Rattle.clk_live.specs.State.{AllGoOn}
use Rattle.clk_live_tests.proofs.seen.take_and_pull.Given as goal

abbrev pub invariant-loop : goal.invariant-loop
invariant-loop g l = (goal.iterator-loop g).can_next l.iterator' × (goal.iterator-loop g).is_finite l.iterator' × AllGoOn l.initial.live.outlets l.live.outlets
