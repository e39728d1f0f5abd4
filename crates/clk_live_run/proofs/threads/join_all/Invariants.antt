use Rattle.std.specs.List.{AllZip}
use Rattle.clk_live_run.specs.inside.Sending.{GaveBack}
use Rattle.clk_live_run.proofs.threads.join_all.Given as goal

abbrev pub invariant-loop-handle : goal.invariant-loop-handle
invariant-loop-handle g l = AllZip GaveBack l.yielded l.inlets.items
