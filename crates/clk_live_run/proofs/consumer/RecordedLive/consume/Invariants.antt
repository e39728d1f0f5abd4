use Rattle.std.specs.Prelude.{◌≡◌, ◌≤◌}
use Rattle.clk_live.specs.State.{AllGoOn}
use Rattle.clk_live_run.specs.inside.Consuming.{commands_of, HasPaced}
use Rattle.clk_live_run.specs.inside.Recording.{LeadsOn}
use Rattle.clk_live_run.proofs.consumer.RecordedLive.consume.Given as goal

abbrev pub invariant-loop : goal.invariant-loop
invariant-loop g l =
    (goal.iterator-loop g).can_next l.iterator' × (goal.iterator-loop g).is_finite l.iterator' × (l.pulls ≤ l.limit) × HasPaced l.step l.pulls l.self.live × (l.self.live.course.setup ≡ l.fn.self.live.course.setup)
    × AllGoOn l.fn.self.live.outlets l.self.live.outlets × LeadsOn l.fn.self.recording l.self.recording (commands_of l.fn.self.live.course) (commands_of l.self.live.course)
