use Rattle.std.proofs.Common.{◌≡◌, ℕ, ◌≤◌, ◌-◌, Ok, [], length}
use Rattle.clk_packet.specs.Bytes.{Wrote}
use Rattle.clk_router.specs.Course.{events_of}
use Rattle.clk_router.specs.Events.{log_of}
use Rattle.clk_script.specs.inside.Replay.{CanReplay}
use Rattle.clk_script.proofs.Carrying.ReplayLemmas.{rows_to}
use Rattle.clk_script.proofs.replay.replay_devices.Given as goal

abbrev pub invariant-loop-column : goal.invariant-loop-column
invariant-loop-column g l = record {
  can : CanReplay l.answer l.again;
  within : l.device ≤ length l.again.setup.trees;
  setup : l.again.setup ≡ l.fn.again.setup;
  none : l.held.items ≡ [];
  later : (k : ℕ) → l.device ≤ k → events_of l.again k ≡ [];
  wrote : Wrote (g.W.Sink.taken l.fn.writer) (g.W.Sink.taken l.writer) (g.W.Sink.failures l.fn.writer) (g.W.Sink.failures l.writer) (Ok tt)
      (rows_to (λ d. log_of (events_of l.answer.script_router.router d)) (length l.fn.again.setup.trees) l.several l.device);
}

abbrev pub decreases-loop-column : goal.decreases-loop-column
decreases-loop-column g l = length l.fn.again.setup.trees - l.device
