use Rattle.clk_live_run.specs.inside.Consuming.{commands_of, OnlyTook}
use Rattle.clk_live_run.specs.inside.Recording.{LeadsOn}
use Rattle.clk_live_run.proofs.consumer.RecordedLive.take_from.Given as goal

abbrev pub invariant-loop : goal.invariant-loop
invariant-loop g l = OnlyTook l.fn.self.live l.self.live × LeadsOn l.fn.self.recording l.self.recording (commands_of l.fn.self.live.course) (commands_of l.self.live.course)
