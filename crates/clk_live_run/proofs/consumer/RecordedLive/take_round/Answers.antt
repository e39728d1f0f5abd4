use Rattle.std.proofs.Common.{◌≡◌, ◌<◌, length, ap, ◌∙◌, arith}
use Rattle.std.proofs.lemmas.List.{length-map}
use Rattle.clk_tree.specs.PlanParts.{number_of}
use Rattle.clk_router.specs.Course.{Course}
use Rattle.clk_live_run.specs.inside.Consuming.{commands_of}
use Rattle.clk_live_run.proofs.Takings.{took-none, took-then, still-there, leads-then}
use Rattle.clk_live_run.proofs.consumer.RecordedLive.take_round.Goals as goal

pub loop-place-init : goal.loop-place-init
loop-place-init g c = (took-none c.args.self.now.live, λ recording start h. h)

pub take_from-requires : goal.take_from-requires
take_from-requires g c =
    let l = c.loop-place in
    let many : length c.senders-place-end.result.now ≡ length c.args.self.now.live.course.setup.senders =
    ap length (rw c.deref.ensures at c.senders-place-end.ensures.numbers) ∙ length-map c.router.result.now.setup.senders number_of ∙ ap (λ (x : Course). length x.setup.senders) c.router.ensures.course in
    let test = c.loop-place-test.true in
    let places = c.router.ensures.places in
    let low : l.place < length c.args.self.now.live.outlets = omega (arith, test, many, places) in
    record { there = still-there l.place c.args.self.now.live l.self.live l.invariant.0.outlets low }

pub loop-place-preserved : goal.loop-place-preserved
loop-place-preserved g c = (
  took-then c.args.self.now.live c.loop-place.self.live c.take_from.new.self.live c.loop-place.invariant.0 c.take_from.ensures.took,
  leads-then c.args.self.now.recording c.loop-place.self.recording c.take_from.new.self.recording (commands_of c.args.self.now.live.course) (commands_of c.loop-place.self.live.course) (commands_of c.take_from.new.self.live.course)
      c.loop-place.invariant.1 c.take_from.ensures.recorded,
)
