use Rattle.std.proofs.Common.{refl, ◌∙◌, arith}
use Rattle.clk_live.proofs.Callers.Halves.{all_same, all_then}
use Rattle.clk_live_run.specs.inside.Consuming.{commands_of}
use Rattle.clk_live_run.proofs.Takings.{leads-then}
use Rattle.clk_live_run.proofs.consumer.RecordedLive.consume.Goals as goal

pub loop-init : goal.loop-init
loop-init g c = (tt, tt, omega arith, c.requires.unpulled, refl, all_same c.args.self.now.live.outlets, λ recording start h. h)

pub loop-preserved : goal.loop-preserved
loop-preserved g c =
    let l = c.loop in
    let new = c.round-pulls in (
      tt,
      tt,
      new.ensures.few,
      new.ensures.paced,
      new.ensures.setup ∙ l.invariant.4,
      all_then c.args.self.now.live.outlets l.self.live.outlets new.new.self.live.outlets l.invariant.5 new.ensures.outlets,
      leads-then c.args.self.now.recording l.self.recording new.new.self.recording (commands_of c.args.self.now.live.course) (commands_of l.self.live.course) (commands_of new.new.self.live.course) l.invariant.6 new.ensures.recorded,
    )
