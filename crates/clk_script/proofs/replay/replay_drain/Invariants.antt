use Rattle.std.proofs.Common.{◌-◌, ◌≤◌}
use Rattle.clk_script.proofs.Carrying.CarriedLemmas.{PulledTo}
use Rattle.clk_script.proofs.replay.replay_drain.Given as goal

abbrev pub invariant-loop-moment : goal.invariant-loop-moment
invariant-loop-moment g l = record {
  carried : PulledTo l.device l.column l.fn.again l.again l.start l.moment
      (record { taken = g.W.Sink.taken l.fn.writer; failures = g.W.Sink.failures l.fn.writer; held = l.fn.held.items })
      (record { taken = g.W.Sink.taken l.writer; failures = g.W.Sink.failures l.writer; held = l.held.items });
  after_start : l.start ≤ l.moment;
  before_end : l.moment - l.start ≤ l.end - l.start;
}

abbrev pub decreases-loop-moment : goal.decreases-loop-moment
decreases-loop-moment g l = l.end - l.moment
