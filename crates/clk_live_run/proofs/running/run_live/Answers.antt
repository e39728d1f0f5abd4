use Rattle.std.proofs.Common.{◌≡◌, ◌*◌, ◌≤◌, true, true≢false, List, [], length, map, Some, sym, ap, ◌∙◌, subst, arith}
use Rattle.std.proofs.lemmas.List.{length-map}
use Rattle.clk_gate.specs.Sent.{sent_in}
use Rattle.clk_inlet.specs.Halves.{offered, AreHalves}
use Rattle.clk_sched.specs.declared.limits.TheConstants.{MAX_LEFT}
use Rattle.clk_tree.specs.PlanParts.{number_of}
use Rattle.clk_router.specs.Course.{Course}
use Rattle.clk_router.specs.Events.{Setup, sender_numbers}
use Rattle.clk_script.specs.declared.script.Command.{Command}
use Rattle.clk_script.specs.Record.{FitsLimits}
use Rattle.clk_live_run.specs.Recorded.{IsRecorded, failures_with}
use Rattle.clk_live_run.specs.inside.Consuming.{taken_in, commands_of}
use Rattle.clk_live_run.specs.inside.Recording.{SinkAt, IsRecordOf}
use Rattle.clk_live_run.proofs.Takings.{same-many}
use Rattle.clk_live_run.proofs.Runs.{paced-none, still-halves, all-through, taken-is, sent-few, can-close, fits-script, ran, recorded, sends}
use Rattle.clk_live_run.proofs.running.run_live.Goals as goal
use Rattle.clk_live_run.proofs.running.run_live.Goals.{In_ok-ended, After-close, then-recording+in_ok-check_length, else-recording}

pub senders_of-requires : goal.senders_of-requires
senders_of-requires g c =
    let opened = c.in_ok-live.ensures.opened in
    let live = c.in_ok-live.live in
    let numbers : length c.senders-2.result.now ≡ length live.course.setup.senders =
    ap length (rw c.deref.ensures at c.senders-2.ensures.numbers) ∙ length-map c.router.result.now.setup.senders number_of ∙ ap (λ (x : Course). length x.setup.senders) c.router.ensures.course in
    let halves = same-many AreHalves c.in_ok-live.inlets.items live.outlets opened.halves in
    let places = opened.places in
    record { many = omega (arith, halves, places, numbers) }

pub run_threads-requires-clause-unpulled : goal.run_threads-requires-clause-unpulled
run_threads-requires-clause-unpulled g c = λ κs lives.
    let opened = c.in_ok-live.ensures.opened in
    paced-none c.args.step c.in_ok-live.live (ap (λ (x : Course). x.events) opened.router.is) opened.taken

pub close-requires-clause-halves : goal.close-requires-clause-halves
close-requires-clause-halves g c =
    let opened = c.in_ok-live.ensures.opened in
    still-halves c.args.traces.now c.in_ok-senders.senders.items c.in_ok-live.inlets.items c.in_ok-ended.ended.inlets.items c.in_ok-live.live.outlets c.in_ok-ended.ended.consumer.live.outlets c.in_ok-senders.ensures.inlets
    opened.halves c.in_ok-ended.ensures.sent c.in_ok-ended.ensures.consumed.outlets

-- what was offered through the inlets
through : (g : _) (c : In_ok-ended g) → map offered c.in_ok-ended.ended.inlets.items ≡ map (sends c.args.traces.now) c.in_ok-senders.senders.items
through g c =
    all-through 1024 c.args.traces.now c.in_ok-senders.senders.items c.in_ok-live.inlets.items c.in_ok-ended.ended.inlets.items c.in_ok-senders.ensures.inlets c.in_ok-live.ensures.opened.offered c.in_ok-ended.ensures.sent

pub close-requires-clause-can : goal.close-requires-clause-can
close-requires-clause-can g c = λ items d there.
    let consumed = c.in_ok-ended.ensures.consumed in
    let l = c.in_ok-ended.ended.consumer.live in
    let is = taken-is c.args.traces.now c.in_ok-senders.senders.items l c.senders-2.result.now (items ∙ through g c) c.in_ok-senders.ensures.numbers in
    let few = sent-few c.args.traces.now c.senders-2.result.now c.senders-2.ensures.rising c.count.ensures.within in
    let low : taken_in l ≤ MAX_LEFT = omega (arith, is, few) in
    can-close c.args.step consumed.pulls c.args.limit l consumed.paced consumed.few c.requires.limit.1 low d there

-- the senders of the plan
its_senders : (g : _) (c : In_ok-ended g) → c.senders-2.result.now ≡ sender_numbers c.in_ok-live.live.course.setup
its_senders g c = (rw c.deref.ensures at c.senders-2.ensures.numbers) ∙ ap (λ (x : Course). sender_numbers x.setup) c.router.ensures.course

-- the record fits a script, if the run was to be recorded
fits_so : (g : _) (c : After-close g) → c.args.recording ≡ true → FitsLimits c.in_ok-ended.ended.consumer.live.course.events (Some 0)
fits_so g c recorded_is =
    let before = (goal.at.returns-clause-ran g c).In_ok-ended in
    let opened = c.in_ok-live.ensures.opened in
    let consumed = c.in_ok-ended.ensures.consumed in
    let l = c.in_ok-ended.ended.consumer.live in
    let setup = ap (λ (x : Course). x.setup) opened.router.is in
    let is = taken-is c.args.traces.now c.in_ok-senders.senders.items l c.senders-2.result.now (c.close.ensures.taken ∙ through g before) c.in_ok-senders.ensures.numbers in
    let numbers = ap (sent_in c.args.traces.now) (its_senders g before ∙ ap sender_numbers setup) in
    let trees = ap (λ (s : Setup). length s.trees) (consumed.setup ∙ setup) ∙ opened.router.are.count in
    let times = ap (λ n. n * c.args.limit) trees in
    elim c.if-recording.branch [
      | then-recording+in_ok-check_length w ↦
          let fits = w.in_ok-check_length.ensures.fits in
          fits-script c.args.step consumed.pulls c.args.limit l consumed.paced consumed.few (omega (arith, is, numbers, times, fits))
      | else-recording w ↦ absurd (true≢false (sym recorded_is ∙ w.if-recording.false))
    ]

-- what was written of the record
written : (g : _) (c : After-close g) → IsRecorded c.args.recording c.close.result.write_failed (g.R.Sink.taken c.args.sink) (g.R.Sink.taken c.close.result.sink) c.in_ok-ended.ended.consumer.live.course.events
    × (g.R.Sink.failures c.close.result.sink ≡ failures_with c.close.result.write_failed (g.R.Sink.failures c.args.sink))
written g c =
    let start : SinkAt = record { taken = g.R.Sink.taken c.args.sink; failures = g.R.Sink.failures c.args.sink } in
    let now : SinkAt = record { taken = g.R.Sink.taken c.close.result.sink; failures = g.R.Sink.failures c.close.result.sink } in
    let l = c.in_ok-ended.ended.consumer.live in
    let none : commands_of c.in_ok-live.live.course ≡ [] = ap commands_of c.in_ok-live.ensures.opened.router.is in
    let begun = subst (λ (commands : List Command). IsRecordOf c.args.recording start c.new.result commands) (sym none) c.new.ensures.begun in
    let gone = c.in_ok-ended.ensures.recorded c.args.recording start begun in
    recorded c.args.recording c.close.result.write_failed start now l.course.events (fits_so g c) (c.close.ensures.recorded c.args.recording start (commands_of l.course) gone)

pub returns-clause-ran : goal.returns-clause-ran
returns-clause-ran g c =
    let before = (goal.at.returns-clause-ran g c).In_ok-ended in
    let opened = c.in_ok-live.ensures.opened in
    let consumed = c.in_ok-ended.ensures.consumed in
    let l = c.in_ok-ended.ended.consumer.live in
    let closed = c.close.ensures.closed in
    record {
      trees = opened.router.trees;
      are = opened.router.are;
      setup = ap (λ (x : Course). x.setup) closed.goes_on ∙ consumed.setup ∙ ap (λ (x : Course). x.setup) opened.router.is;
      events = l.course.events;
      closed = closed.closed;
      all = ap (λ (x : Course). x.events) closed.goes_on;
      run =
          ran c.args.traces.now c.args.step consumed.pulls c.args.limit c.in_ok-senders.senders.items l c.close.result.live consumed.paced consumed.few closed
          (c.in_ok-senders.ensures.numbers ∙ its_senders g before ∙ ap sender_numbers (sym consumed.setup)) (c.close.ensures.taken ∙ through g before) c.close.ensures.outcome;
      told = (written g c).0;
    }

pub returns-clause-failures : goal.returns-clause-failures
returns-clause-failures g c = (written g (goal.at.returns-clause-failures g c).After-close).1
