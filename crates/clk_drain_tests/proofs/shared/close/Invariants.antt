use Rattle.clk_sched.specs.Session.{progress_of}
use Rattle.clk_drain.specs.Line.{AreLinesOf}
use Rattle.clk_drain_tests.proofs.shared.close.Given as goal

abbrev pub invariant-loop-packet : goal.invariant-loop-packet
invariant-loop-packet g l = AreLinesOf (progress_of l.session) l.lines
