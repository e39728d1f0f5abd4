use Rattle.std.proofs.Common.{rules, ◌≡◌, ◌*◌, ◌<◌, List, length, sym, ap₂, subst}
use Rattle.clk_router.specs.Course.{CanPull}
use Rattle.clk_script.specs.declared.script.Command.{Command}
use Rattle.clk_live.specs.State.{seen}
use Rattle.clk_live.specs.Pulling.{IsPulledLive}
use Rattle.clk_live_run.specs.inside.Consuming.{commands_of}
use Rattle.clk_live_run.specs.inside.Recording.{LeadsOn}
use Rattle.clk_live_run.proofs.Takings.{pulled-more, pulled-command, leads-then, can-pull, round-early}
use Rattle.clk_live_run.proofs.consumer.RecordedLive.pull_round.Goals as goal

pub pull-requires : goal.pull-requires
pull-requires g c =
    let l = c.loop-device in
    let moment : c.from.result * c.from-2.result ≡ c.args.round * c.args.step = ap₂ (λ a b. a * b) c.from.ensures c.from-2.ensures in
    let low : l.device < length c.args.self.now.live.course.setup.trees = search rules in
    let early = round-early c.args.round c.args.step c.requires.moment.1 c.requires.moment.0 in
    record { can = subst (λ m. CanPull l.self.live.course l.device m) (sym moment) (can-pull l.device (c.args.round * c.args.step) c.args.self.now.live l.self.live l.invariant.0 low early (c.requires.few l.device low)) }

pub loop-device-preserved : goal.loop-device-preserved
loop-device-preserved g c =
    let l = c.loop-device in
    let moment : c.from.result * c.from-2.result ≡ c.args.round * c.args.step = ap₂ (λ a b. a * b) c.from.ensures c.from-2.ensures in
    let one = subst (λ m. IsPulledLive l.device m (seen l.self.live) c.pull.result (seen c.pull.new.self)) moment c.pull.ensures.pulled in
    let more = pulled-command l.device (c.from.result * c.from-2.result) l.self.live c.pull.new.self c.pull.result c.pull.ensures.pulled in (
      pulled-more l.device (c.args.round * c.args.step) c.args.self.now.live l.self.live c.pull.new.self c.pull.result l.invariant.0 one c.pull.ensures.unchanged.0,
      leads-then c.args.self.now.recording l.self.recording c.note.new.self (commands_of c.args.self.now.live.course) (commands_of l.self.live.course) (commands_of c.pull.new.self.course) l.invariant.1
          (subst (λ (commands : List Command). LeadsOn l.self.recording c.note.new.self (commands_of l.self.live.course) commands) (sym more) (c.note.ensures.noted (commands_of l.self.live.course))),
    )
