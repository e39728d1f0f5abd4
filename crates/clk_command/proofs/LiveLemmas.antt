-- What a run through inlets writes, and what its record means.
use Rattle.std.proofs.Common.{◌≡◌, ◌⊎◌, ◌++◌, ℕ, Bool, true, false, List, [], append-nil, append_assoc, Option, Some, None, Result, Ok, Err, IfSome, OnOk, refl, sym, ap, subst, ◌∙◌, inl, inr}
use Rattle.std.specs.Io.KnownBytes.{Appends}
use Rattle.std.specs.List.{flat_map}
use Rattle.std.proofs.KnownBytes.{Appends-nil, Appends-trans}
use Rattle.clk_packet.specs.declared.fault.Fault.{Fault}
use Rattle.clk_packet.specs.declared.fault.Fault.TheVariants.{Write}
use Rattle.clk_packet.specs.declared.packet.Packet.{Packet}
use Rattle.clk_packet.proofs.Callers.Written.{wrote-whole, wrote-front}
use Rattle.clk_packet.specs.Bytes.{AppendsFront, Wrote}
use Rattle.clk_packet.specs.Written.{WroteWhat}
use Rattle.clk_sched.specs.Tree.{Tree}
use Rattle.clk_sched.specs.declared.visit.Visit.{Visit}
use Rattle.clk_tree.specs.Plan.{Planned}
use Rattle.clk_tree.specs.Shares.{AreTreesOf}
use Rattle.clk_router.specs.Course.{Course}
use Rattle.clk_router.specs.Events.{Setup, Event, CanHappen, logs_of, plan_setup}
use Rattle.clk_script.specs.Meaning.{IsClosed, MeansOver, MeansOverWith, closing_text, ending_text, event_text, has_several}
use Rattle.clk_script.specs.Record.{FitsLimits, PlanRecordsMeanTheirCourse}
use Rattle.clk_live_run.specs.Recorded.{IsRecorded, run_record}
use Rattle.clk_live_run.specs.Run.{LiveRunOf}
use Rattle.clk_gate.specs.Known.{senders_in, first_unknown}
use Rattle.clk_command.specs.Running.{EndsIn, HasRecord, LiveWrites, Tells}
use Rattle.clk_command.proofs.TaskLemmas.{front-later}
use Rattle.clk_command.specs.Tasks.{AreTogether, WroteBetween, WroteBoth}
use Rattle.clk_words.specs.declared.pace.Pace.{Pace}

-- the record of what can happen over a plan, and of its closing, ends in the report of all
record-ends : (plan : List Planned) (trees : List Tree) (events closed : List Event) → PlanRecordsMeanTheirCourse plan trees → CanHappen (plan_setup trees plan) (events ++ closed)
    → IsClosed (plan_setup trees plan) (Some 0) events closed → FitsLimits events (Some 0) → EndsIn plan (run_record events) (ending_text (plan_setup trees plan) (Some 0) (events ++ closed)) (logs_of (plan_setup trees plan) (events ++ closed))
record-ends plan trees events closed records can closes fits =
    let setup = plan_setup trees plan in
    let lines = flat_map (event_text (has_several setup)) events in
    let closing = flat_map (closing_text (has_several setup)) closed in
    let ending = ending_text setup (Some 0) (events ++ closed) in (
      lines ++ closing,
      subst (λ (text : List ℕ). MeansOverWith plan (run_record events) text (logs_of setup (events ++ closed))) (sym (append_assoc lines closing ending)) (records events closed (Some 0) can closes fits),
    )

-- the same, over a setup that is the plan's, for all that happened
setup-record-ends : (plan : List Planned) (trees : List Tree) (setup : Setup) (events closed all : List Event) → setup ≡ plan_setup trees plan → all ≡ events ++ closed → PlanRecordsMeanTheirCourse plan trees → CanHappen setup (events ++ closed)
    → IsClosed setup (Some 0) events closed → FitsLimits events (Some 0) → (logs : List (List Visit)) × EndsIn plan (run_record events) (ending_text setup (Some 0) all) logs
setup-record-ends plan trees setup events closed all is whole records can closes fits =
    let can_here = subst (λ (s : Setup). CanHappen s (events ++ closed)) is can in
    let closes_here = subst (λ (s : Setup). IsClosed s (Some 0) events closed) is closes in
    let ends = record-ends plan trees events closed records can_here closes_here fits in
    let logs = logs_of (plan_setup trees plan) (events ++ closed) in
    let over = subst (λ (s : Setup). EndsIn plan (run_record events) (ending_text s (Some 0) (events ++ closed)) logs) (sym is) ends in
    (logs, subst (λ (l : List Event). EndsIn plan (run_record events) (ending_text setup (Some 0) l) logs) (sym whole) over)

-- what a run through inlets writes, and what its sink has of the record
pub live-writes : (plan : List Planned) (pace : Pace) (known : Option (List ℕ)) (traces : List (List Packet)) (course : Course) (recording failed : Bool) (old new : Option (List ℕ))
    → ((trees : List Tree) → AreTreesOf plan trees → PlanRecordsMeanTheirCourse plan trees) → IfSome known (λ text. Tells text traces)
    → first_unknown (senders_in plan) traces ≡ None → LiveRunOf plan traces pace.step pace.limit course (λ setup events closed. IsRecorded recording failed old new events)
    → (script : List ℕ) × LiveWrites plan pace known recording (ending_text course.setup (Some 0) course.events) script × HasRecord recording failed old new script
live-writes plan pace known traces course recording failed old new records tells all run = (
  run_record run.events,
  record {
    traces = traces;
    tells = tells;
    known = all;
    course = course;
    came_to = record {
      trees = run.trees;
      are = run.are;
      setup = run.setup;
      events = run.events;
      closed = run.closed;
      all = run.all;
      run = run.run;
      told = (ap (ending_text course.setup (Some 0)) run.all, refl);
    };
    means = λ on. setup-record-ends plan run.trees course.setup run.events run.closed course.events run.setup run.all (records run.trees run.are) run.run.happened run.run.closes (run.told.fits on);
  },
  record { unrecorded = run.told.unrecorded; whole = run.told.whole; front = run.told.front },
)

-- a script ends in a text with the logs of whatever it means
pub ends-with : (plan : List Planned) (script text : List ℕ) (logs : List (List Visit))
    → ((s one other : List ℕ) → MeansOver plan s one → MeansOver plan s other → one ≡ other) → (others : List (List Visit)) × EndsIn plan script text others → (whole : List ℕ) × MeansOverWith plan script whole logs → EndsIn plan script text logs
ends-with plan script text logs one ends means = (
  ends.1.0,
  subst (λ (all : List ℕ). MeansOverWith plan script all logs) (one script means.0 (ends.1.0 ++ text) (logs, means.1) (ends.0, ends.1.1)) means.1,
)

-- known bytes that grew by a text grew by a front of it
pub front-whole : (old new : Option (List ℕ)) (text : List ℕ) → Appends old new text → AppendsFront old new text
front-whole old new text appends = (text, [], sym (append-nil text), appends)

pub front-none : (old : Option (List ℕ)) (text : List ℕ) → AppendsFront old old text
front-none old text = ([], text, refl, Appends-nil old)

pub on-ok : {T : Type 0} {P : Type 0} (result : Result T Fault) → P → OnOk result P
on-ok (Ok x) p = p
on-ok (Err fault) p = tt

-- a front of the text was written, or all of it, and no visits
pub both-front : {T V : Type 0} (Q : List ℕ → List ℕ → Type 0) (fault : Fault) (old new : Option (List ℕ)) (taken : V → Option (List ℕ)) (before : V) (text visits : List ℕ) → Q text visits → fault ≡ Write → AppendsFront old new text
    → WroteBoth {T = T} Q old new (Err fault) taken before before
both-front Q fault old new taken before text visits means is front =
    record { whole = tt; front = λ _. (text, visits, means, inl (front, refl)); nothing = λ other. absurd (other is) }

-- the text was written, and then the visits as far as their sink took them
pub both-last : {V : Type 0} (Q : List ℕ → List ℕ → Type 0) (result : Result (Unit {0}) Fault) (old new : Option (List ℕ)) (taken : V → Option (List ℕ)) (before after : V) (failed fails : ℕ) (text visits : List ℕ)
    → Q text visits → Appends old new text → Wrote (taken before) (taken after) failed fails result visits → WroteBoth Q old new result taken before after
both-last Q (Ok x) old new taken before after failed fails text visits means all wrote =
    record { whole = (text, visits, means, all, wrote.whole); front = λ failed. absurd (cc); nothing = tt }
both-last Q (Err fault) old new taken before after failed fails text visits means all wrote =
    record { whole = tt; front = λ _. (text, visits, means, inr (all, wrote.front)); nothing = λ other. absurd (other wrote.fault) }

-- a script was begun after the first text, or not at all
pub between-cut : {T R : Type 0} (script : List ℕ) (fault : Fault) (taken : R → Option (List ℕ)) (before after : R) (First Unbegun : Type 0) → AppendsFront (taken before) (taken after) script → (after ≡ before) ⊎ First → Unbegun
    → WroteBetween {T = T} script (Err fault) taken before after First Unbegun
between-cut script fault taken before after First Unbegun front follows unbegun = record { whole = tt; front = front; follows = follows; leads = inl unbegun }

-- it was written whole, after the first text
pub between-whole : {T R : Type 0} (script : List ℕ) (result : Result T Fault) (taken : R → Option (List ℕ)) (before after : R) (First Unbegun : Type 0) → Appends (taken before) (taken after) script → First
    → WroteBetween script result taken before after First Unbegun
between-whole script result taken before after First Unbegun all first =
    record { whole = on-ok result all; front = front-whole _ _ _ all; follows = inr first; leads = inr all }

-- what a run writes whose record was kept in memory, which had nothing before
pub kept-writes : (plan : List Planned) (pace : Pace) (known : Option (List ℕ)) (traces : List (List Packet)) (course : Course) (failed : Bool) (start now : List ℕ) → start ≡ [] → failed ≡ false
    → ((trees : List Tree) → AreTreesOf plan trees → PlanRecordsMeanTheirCourse plan trees) → IfSome known (λ text. Tells text traces)
    → first_unknown (senders_in plan) traces ≡ None → LiveRunOf plan traces pace.step pace.limit course (λ setup events closed. IsRecorded true failed (Some start) (Some now) events) → LiveWrites plan pace known true (ending_text course.setup (Some 0) course.events) now
kept-writes plan pace known traces course failed start now empty sound records tells all run =
    let w = live-writes plan pace known traces course true failed (Some start) (Some now) records tells all run in
    let whole : now ≡ w.0 = w.2.whole refl sound ∙ ap (λ l. l ++ w.0) empty in
    subst (λ (script : List ℕ). LiveWrites plan pace known true (ending_text course.setup (Some 0) course.events) script) (sym whole) w.1

-- the report was written, its record, and then the visits to the sink of the report as far as it took them
pub follow-last : {R : Type 0} (Q : List ℕ → List ℕ → List ℕ → Type 0) (result : Result (Unit {0}) Fault) (old mid new : Option (List ℕ)) (taken : R → Option (List ℕ)) (script after : R) (failed fails : ℕ) (lines text visits : List ℕ)
    → Q lines text visits → Appends (taken script) (taken after) lines → Appends old mid text → Wrote mid new failed fails result visits
    → WroteWhat (λ all. (l : List ℕ) × AreTogether (λ t rows. Q l t rows × WroteBetween l result taken script after ((front : List ℕ) × Appends old new (t ++ front)) (AppendsFront old new t)) all) result old new
follow-last Q (Ok x) old mid new taken script after failed fails lines text visits means recorded all wrote =
    let whole = Appends-trans old mid new text visits all wrote.whole in
    wrote-whole _ _ _ _ (text ++ visits)
    (lines, record { answer = text; visits = visits; means = (means, between-whole _ _ _ _ _ _ _ recorded (visits, whole)); together = refl })
    whole
follow-last Q (Err fault) old mid new taken script after failed fails lines text visits means recorded all wrote =
    let cut = wrote.front in
    wrote-front _ _ _ _ (text ++ visits) wrote.fault
    (lines, record { answer = text; visits = visits; means = (means, between-whole _ _ _ _ _ _ _ recorded (cut.0, Appends-trans old mid new text cut.0 all cut.3)); together = refl })
    (front-later old mid new text visits all cut)
