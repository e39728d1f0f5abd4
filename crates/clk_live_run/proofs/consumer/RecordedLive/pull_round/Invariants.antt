use Rattle.std.specs.Prelude.{◌*◌}
use Rattle.clk_live_run.specs.inside.Consuming.{commands_of, PulledFirst}
use Rattle.clk_live_run.specs.inside.Recording.{LeadsOn}
use Rattle.clk_live_run.proofs.consumer.RecordedLive.pull_round.Given as goal

abbrev pub invariant-loop-device : goal.invariant-loop-device
invariant-loop-device g l =
    PulledFirst l.device (l.round * l.step) l.fn.self.live l.self.live × LeadsOn l.fn.self.recording l.self.recording (commands_of l.fn.self.live.course) (commands_of l.self.live.course)
