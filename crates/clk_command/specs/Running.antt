-- What running a trace over a plan writes, and why it fails (this project's own definition).
use Rattle.std.specs.Prelude.{◌≡◌, ◌⊎◌, ℕ, Bool, true, false, List, ◌++◌, Option, Some, None, IfSome}
use Rattle.std.specs.Io.KnownBytes.{Appends}
use Rattle.std.specs.List.{flat_map}
use Rattle.clk_packet.specs.declared.packet.Packet.{Packet}
use Rattle.clk_packet.specs.declared.tally.Tally.{Tally}
use Rattle.clk_packet.specs.declared.fault.Fault.{Fault}
use Rattle.clk_packet.specs.declared.fault.Fault.TheVariants.{Write}
use Rattle.clk_packet.specs.Bytes.{AppendsFront}
use Rattle.clk_packet.specs.Trace.{ExplainsTrace, pairs_of, sent, sent_by, shown, trace_fault}
use Rattle.clk_sched.specs.declared.visit.Visit.{Visit}
use Rattle.clk_tree.specs.Plan.{Planned}
use Rattle.clk_gate.specs.Known.{senders_in, first_unknown}
use Rattle.clk_drain.specs.Run.{IsFaultOfRun, IsRunWith}
use Rattle.clk_report.specs.Report.{report_text}
use Rattle.clk_router.specs.Course.{Course}
use Rattle.clk_script.specs.Meaning.{MeansOverWith, ending_text}
use Rattle.clk_live_run.specs.Recorded.{run_record}
use Rattle.clk_live_run.specs.Run.{IsFaultOfLive, LiveRunOf}
use Rattle.clk_words.specs.declared.pace.Pace.{Pace}

-- A trace has no fault, and says that each sender sends this.
pub record Tells (trace : List ℕ) (traces : List (List Packet)) : Type 0 where
  pub sound : trace_fault trace ≡ None
  pub sent : (s : ℕ) → shown (sent_by traces s) ≡ sent s (pairs_of trace)

-- A trace, whose bytes these are, says what each sender sends, of which this is told. If its bytes aren't known, some packets are sent.
abbrev pub OverTrace : Option (List ℕ) → (List (List Packet) → Type 0) → Type 0
OverTrace trace Told = (traces : List (List Packet)) × IfSome trace (λ bytes. Tells bytes traces) × Told traces

-- Running a trace over a plan, which has all of its senders, writes this text, with these logs. It is the report of a run of the plan over
-- what the trace says, or over some packets if its bytes aren't known. There may be several such texts, since runs may differ.
pub record RunWrites (plan : List Planned) (pace : Pace) (trace : Option (List ℕ)) (text : List ℕ) (logs : List (List Visit)) : Type 0 where
  pub traces : List (List Packet)
  pub tells : IfSome trace (λ bytes. Tells bytes traces)
  pub known : first_unknown (senders_in plan) traces ≡ None
  pub emitted : List (List Packet)
  pub tallies : List Tally
  pub came_to : IsRunWith plan traces pace.step pace.limit logs emitted tallies
  pub reported : text ≡ report_text (flat_map (λ packets. packets) emitted) tallies

-- Why a task over a trace fails with a fault: the writer failed, or the reader or the trace has it, or what the trace says is refused.
abbrev pub ExplainsOverTrace : Option (List ℕ) → (List (List Packet) → Fault → Type 0) → Fault → Type 0
ExplainsOverTrace trace Refused fault = (fault ≡ Write) ⊎ (ExplainsTrace trace fault ⊎ OverTrace trace (λ traces. Refused traces fault))

-- Why running a trace over a plan fails with a fault.
abbrev pub ExplainsRun : List Planned → Option (List ℕ) → Fault → Type 0
ExplainsRun plan trace = ExplainsOverTrace trace (IsFaultOfRun plan)

-- Over the plan the script prints some lines and then this text, and its pulls make these logs.
abbrev pub EndsIn : List Planned → (script text : List ℕ) → List (List Visit) → Type 0
EndsIn plan script text logs = (lines : List ℕ) × MeansOverWith plan script (lines ++ text) logs

-- Running a trace through inlets over a plan, which has all of its senders, writes this text, and this script is its record. They are the
-- report and the record of a run of the plan over what the trace says. If the run was recorded, the script ends in the text.
pub record LiveWrites (plan : List Planned) (pace : Pace) (trace : Option (List ℕ)) (recording : Bool) (text script : List ℕ) : Type 0 where
  pub traces : List (List Packet)
  pub tells : IfSome trace (λ bytes. Tells bytes traces)
  pub known : first_unknown (senders_in plan) traces ≡ None
  pub course : Course
  pub came_to : LiveRunOf plan traces pace.step pace.limit course (λ setup events closed. (text ≡ ending_text setup (Some 0) (events ++ closed)) × (script ≡ run_record events))
  pub means : recording ≡ true → (logs : List (List Visit)) × EndsIn plan script text logs

-- A sink that had taken `old` before has its part of the script that records a run. That is nothing if the run was not to be recorded,
-- otherwise all of it, or a front of it if the sink failed.
pub record HasRecord (recording failed : Bool) (old new : Option (List ℕ)) (script : List ℕ) : Type 0 where
  pub unrecorded : recording ≡ false → (new ≡ old) × (failed ≡ false)
  pub whole : recording ≡ true → failed ≡ false → Appends old new script
  pub front : recording ≡ true → failed ≡ true → AppendsFront old new script

-- Why running a trace through inlets over a plan fails with a fault.
abbrev pub ExplainsLive : List Planned → Option (List ℕ) → ℕ → Bool → Fault → Type 0
ExplainsLive plan trace limit recording = ExplainsOverTrace trace (λ traces. IsFaultOfLive plan traces limit recording)
