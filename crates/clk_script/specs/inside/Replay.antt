-- What it means that a script is carried out again, device by device, to write the visits.
use Rattle.std.specs.Prelude.{◌≡◌, ℕ, ◌+◌, ◌≤◌, ◌==◌, List, [], ◌∷◌, ◌++◌, length, map, filter, true, Bool, Option, Some, None, OnOk, OnErr, Result, if◌then◌else◌, IfSome, false}
use Rattle.std.specs.Option.{option_map_or}
use Rattle.std.specs.List.{AllByRecursion, range_with_len}
use Rattle.clk_packet.specs.Bytes.{OfBytes, Wrote}
use Rattle.clk_packet.specs.declared.fault.Fault.{Fault}
use Rattle.clk_report.specs.declared.reports.TheConstants.{MAX_DEVICES}
use Rattle.clk_report.specs.VisitCsv.{rows_text}
use Rattle.clk_sched.specs.Keeps.{keeps_latest}
use Rattle.clk_sched.specs.Tree.{Tree}
use Rattle.clk_sched.specs.declared.visit.Visit.{Visit}
use Rattle.clk_tree.specs.Plan.{Planned}
use Rattle.clk_tree.specs.Shares.{AreTreesOf}
use Rattle.clk_router.specs.Course.{Course, after, device_at}
use Rattle.clk_router.specs.Events.{Setup, Event, happens_at, events_at, log_of, logs_of, plan_setup, CanHappen}
use Rattle.clk_script.specs.declared.answer.Answer.{Answer}
use Rattle.clk_script.specs.declared.rows.ScriptRow.{ScriptRow}
use Rattle.clk_script.specs.declared.rows.ScriptRow.TheVariants as row
use Rattle.clk_script.specs.declared.script.Command.{Command}
use Rattle.clk_script.specs.declared.script.Command.TheVariants.{Pull}
use Rattle.clk_script.specs.Meaning.{command_of, MeansOverWith, Writes}
use Rattle.clk_script.specs.declared.limits.TheConstants.{MAX_LINES}
use Rattle.clk_script.specs.inside.Rows.{asked_by, Answers}

-- The answer to a script over a plan, if its bytes are known. All that its commands write is the meaning of the script.
pub record IsAnswerOver (plan : List Planned) (known : Option (List ℕ)) (answer : Answer) : Type 0 where
  pub trees : List Tree
  pub are : AreTreesOf plan trees
  pub commands : List Command
  pub answers : Answers (plan_setup trees plan) commands answer.drain answer
  pub means : (text : List ℕ) (logs : List (List Visit)) → Writes (plan_setup trees plan) commands answer.drain text logs → OfBytes known (λ script. MeansOverWith plan script text logs)
  pub packets : answer.script_router.router.keeps.packets ≡ true
  pub few : length answer.rows.items ≤ MAX_LINES
  pub few_closings : IfSome answer.closing (λ closings. length closings.items ≤ MAX_DEVICES)

-- whether a row asks for something at a device
abbrev pub is_row_at : Setup → ℕ → ScriptRow → Bool
is_row_at setup d (row.Send fate place p) = option_map_or (λ other. other == d) (device_at setup place) false
is_row_at setup d (row.Pull gave device moment) = device == d

-- the commands of the rows that ask for something at a device
abbrev pub asked_at : Setup → ℕ → List ScriptRow → List Command
asked_at setup d rows = asked_by (filter (is_row_at setup d) rows)

-- so many pulls of a device, one tick apart, the first at a moment
abbrev pub pulls_asked : ℕ → ℕ → ℕ → List Command
pulls_asked device moment count = map (Pull device) (range_with_len moment count)

-- what a sink took, how often it failed, and which visits are held until there are enough to be written at once
pub record Outgoing : Type 0 where
  pub taken : Option (List ℕ)
  pub failures : ℕ
  pub held : List Visit

-- Visits were added to those that are held. The sink took the rows of the first of all these, with this column, and the others are held
-- now. If it failed, it took a front of the rows of all.
pub record HeldOn (column : Option ℕ) (old new : Outgoing) (result : Result (Unit {0}) Fault) (visits : List Visit) : Type 0 where
  pub out : List Visit
  pub split : OnOk result (out ++ new.held ≡ old.held ++ visits)
  pub cut : OnErr result (out ≡ old.held ++ visits)
  pub wrote : Wrote old.taken new.taken old.failures new.failures result (rows_text column out)

-- A router carried out these commands at a device, all of them if that succeeded, and otherwise the first ones. This became of the visits
-- of its pulls.
pub record CarriedOn (device : ℕ) (old new : Course) (asked : List Command) (result : Result (Unit {0}) Fault) (BecameOf : List Visit → Type 0) : Type 0 where
  pub more : List Event
  pub goes_on : new ≡ after old more
  pub here : AllByRecursion (λ e. happens_at old.setup device e ≡ true) more
  pub rest : List Command
  pub theirs : map command_of more ++ rest ≡ asked
  pub all : OnOk result (rest ≡ [])
  pub can_happen : CanHappen new.setup new.events
  pub became : BecameOf (log_of more)

-- If the commands of one course at a device are a prefix of those of another, so are the events there.
abbrev pub DevicesGoAlike : Setup → Type 0
DevicesGoAlike setup =
    (d : ℕ) (one other : List Event) (rest : List Command) → CanHappen setup one → CanHappen setup other → map command_of (events_at setup d one) ++ rest ≡ map command_of (events_at setup d other)
    → (more : List Event) × (events_at setup d one ++ more ≡ events_at setup d other)

-- A script was answered over this setup, and can be carried out again over a router of it.
pub record CanReplay (answer : Answer) (again : Course) : Type 0 where
  pub commands : List Command
  pub answers : Answers again.setup commands answer.drain answer
  pub keeps : again.keeps ≡ keeps_latest
  pub few : length answer.rows.items ≤ MAX_LINES
  pub alike : DevicesGoAlike again.setup

-- the visits of each device of the router over which a script was carried out
abbrev pub logs_in : Answer → List (List Visit)
logs_in answer = logs_of answer.script_router.router.setup answer.script_router.router.events

-- the column of a device; rows of a single device have none
abbrev pub column_of : Bool → ℕ → Option ℕ
column_of several device = if several then Some device else None

-- the rows of the logs of devices, by their numbers from d on
abbrev pub device_rows : Bool → ℕ → List (List Visit) → List ℕ
device_rows several d [] = []
device_rows several d (log ∷ logs) = rows_text (column_of several d) log ++ device_rows several (d + 1) logs
