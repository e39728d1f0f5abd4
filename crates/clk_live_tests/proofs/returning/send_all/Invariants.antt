use Rattle.clk_live.specs.Sending.{HasSent}
use Rattle.clk_live_tests.proofs.returning.send_all.Given as goal

abbrev pub invariant-loop-packet : goal.invariant-loop-packet
invariant-loop-packet g l = HasSent l.initial.inlet l.yielded l.inlet
