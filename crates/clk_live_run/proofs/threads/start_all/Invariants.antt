use Rattle.std.specs.List.{AllZip}
use Rattle.clk_live_run.specs.inside.Sending.{IsStarted}
use Rattle.clk_live_run.proofs.threads.start_all.Given as goal

abbrev pub invariant-loop-sender : goal.invariant-loop-sender
invariant-loop-sender g l = AllZip (IsStarted l.terms.traces.now) l.yielded l.handles.items
