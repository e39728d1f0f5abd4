use Rattle.std.specs.Prelude.{[]}
use Rattle.clk_live.specs.Sending.{HasSent}
use Rattle.clk_live_run.proofs.senders.offer.Given as goal

abbrev pub invariant-loop : goal.invariant-loop
invariant-loop g l = (goal.iterator-loop g).can_next l.iterator' × (goal.iterator-loop g).is_finite l.iterator' × HasSent l.fn.inlet [] l.inlet
