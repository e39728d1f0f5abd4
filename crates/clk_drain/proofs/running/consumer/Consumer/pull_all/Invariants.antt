use Rattle.std.specs.Prelude.{◌≤◌, ◌-◌}
use Rattle.clk_drain.specs.inside.Threads.{IsPulledFor}
use Rattle.clk_drain.proofs.running.consumer.Consumer.pull_all.Given as goal

abbrev pub invariant-loop-made : goal.invariant-loop-made
invariant-loop-made g l = record {
  pulled : IsPulledFor l.terms l.made l.fn.self l.consumer;
  within : l.made ≤ l.terms.limit;
}

abbrev pub decreases-loop-made : goal.decreases-loop-made
decreases-loop-made g l = l.terms.limit - l.made
