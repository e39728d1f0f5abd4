use Rattle.std.proofs.Common.{List, sym, subst}
use Rattle.clk_script.specs.declared.script.Command.{Command}
use Rattle.clk_live_run.specs.inside.Consuming.{commands_of}
use Rattle.clk_live_run.specs.inside.Recording.{LeadsOn}
use Rattle.clk_live_run.proofs.Takings.{took-none, took-one, took-same, took-then, took-command, still-there, leads-then}
use Rattle.clk_live_run.proofs.consumer.RecordedLive.take_from.Goals as goal

pub loop-init : goal.loop-init
loop-init g c = (took-none c.args.self.now.live, λ recording start h. h)

pub take-requires : goal.take-requires
take-requires g c = record { there = still-there c.args.place c.args.self.now.live c.loop.self.live c.loop.invariant.0.outlets c.requires.there }

pub returns-in_default-clause-took : goal.returns-in_default-clause-took
returns-in_default-clause-took g c =
    took-then c.args.self.now.live c.loop.self.live c.take.new.self c.loop.invariant.0 (took-same c.loop.self.live c.take.new.self (c.take.ensures.none c.in_default.is) c.take.ensures.outlets)

pub loop-preserved : goal.loop-preserved
loop-preserved g c =
    let t = c.in-Some.taken in
    let one = c.in-Some.ensures.taken in
    let more = took-command c.args.place c.loop.self.live c.take.new.self t one in (
      took-then c.args.self.now.live c.loop.self.live c.take.new.self c.loop.invariant.0 (took-one c.args.place c.loop.self.live c.take.new.self t one c.take.ensures.outlets),
      leads-then c.args.self.now.recording c.loop.self.recording c.note.new.self (commands_of c.args.self.now.live.course) (commands_of c.loop.self.live.course) (commands_of c.take.new.self.course) c.loop.invariant.1
          (subst (λ (commands : List Command). LeadsOn c.loop.self.recording c.note.new.self (commands_of c.loop.self.live.course) commands) (sym more) (c.note.ensures.noted (commands_of c.loop.self.live.course))),
    )
