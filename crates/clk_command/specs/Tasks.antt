-- What is done for each task, by the bytes of its files, if these are known.
use Rattle.std.specs.Prelude.{◌≡◌, ◌≢◌, ◌⊎◌, ◌++◌, ℕ, Bool, true, false, List, Option, None, Some, if◌then◌else◌, Result, OnOk, IfErr, IsErrOf}
use Rattle.std.specs.Io.KnownBytes.{Appends, Keeps}
use Rattle.std.specs.Str.{bytes_eq}
use Rattle.clap.specs.Kinds.{Kinds, IsAmong}
use Rattle.clap.specs.Walk.{Text}
use Rattle.clap.specs.declared.error.kind.ErrorKind.{ErrorKind}
use Rattle.clap.specs.declared.error.kind.ErrorKind.TheVariants.{DisplayHelp, DisplayVersion}
use Rattle.clk_packet.specs.declared.fault.Fault.{Fault}
use Rattle.clk_packet.specs.declared.fault.Fault.TheVariants.{Memory, Read, Write}
use Rattle.clk_sched.specs.declared.visit.Visit.{Visit}
use Rattle.clk_tree.specs.Plan.{Planned, Denotes}
use Rattle.clk_tree.specs.Canonical.{canonical_text}
use Rattle.clk_lint.specs.Lines.{lint_text}
use Rattle.clk_syntax.specs.Reading.{HasFault}
use Rattle.clk_report.specs.VisitCsv.{visits_text}
use Rattle.clk_packet.specs.Bytes.{AppendsFront, OfBytes}
use Rattle.clk_script.specs.Meaning.{MeansOver, MeansOverWith, ExplainsPlan}
use Rattle.clk_command.specs.Running.{RunWrites, ExplainsRun, EndsIn, ExplainsLive, LiveWrites}
use Rattle.clk_command.specs.Linting.{ExplainsLint, LintWrites}
use Rattle.clk_words.specs.Words.{Task, builtin, check, lint, over, Work, lint_trace, script, run, live, dash, is_recorded, visits_follow}
use Rattle.clk_words.specs.declared.pace.Pace.{Pace}
use Rattle.clk_command.specs.declared.builtin.TheConstants.{TEXT}

-- The text of a tree, whose bytes these are, denotes the plan.
abbrev pub IsPlanIn : Option (List ℕ) → List Planned → Type 0
IsPlanIn tree plan = OfBytes tree (λ text. Denotes text plan)

-- The text of a tree denotes a plan, of which this is told.
abbrev pub OverPlan : Option (List ℕ) → (List Planned → Type 0) → Type 0
OverPlan tree Told = (plan : List Planned) × IsPlanIn tree plan × Told plan

-- The text is the canonical text of the plan that the text of a tree denotes.
abbrev pub IsCanonicalOf : (tree : Option (List ℕ)) → (text : List ℕ) → Type 0
IsCanonicalOf tree text = OverPlan tree (λ plan. text ≡ canonical_text plan)

-- The text has the warnings of the plan that the text of a tree denotes.
abbrev pub IsLintOf : (tree : Option (List ℕ)) → (text : List ℕ) → Type 0
IsLintOf tree text = OverPlan tree (λ plan. text ≡ lint_text plan None)

-- The text has the warnings of a tree and a trace.
abbrev pub LintsOver : (tree trace : Option (List ℕ)) → (text : List ℕ) → Type 0
LintsOver tree trace text = OverPlan tree (λ plan. LintWrites plan trace text)

-- A tree was read: its source did not fail, and its text denotes this plan; if its bytes aren't known, some text does. A task reads its
-- second source only then.
abbrev pub WasTreeRead : (tree : Option (List ℕ)) → (before after : ℕ) → Type 0
WasTreeRead tree before after = OverPlan tree (λ plan. after ≡ before)

-- Why reading a plan fails with a fault: an allocation or the source failed, or the text has the fault.
abbrev pub ExplainsTree : Option (List ℕ) → Fault → Type 0
ExplainsTree tree fault = ((fault ≡ Memory) ⊎ (fault ≡ Read)) ⊎ OfBytes tree (λ text. HasFault text fault)

-- A script over a tree writes this text.
abbrev pub WritesOver : (tree input : Option (List ℕ)) → (text : List ℕ) → Type 0
WritesOver tree input text = OverPlan tree (λ plan. OfBytes input (λ script. MeansOver plan script text))

-- A script over a tree writes this text, and this visit file.
abbrev pub WritesWithVisits : (tree input : Option (List ℕ)) → (text visits : List ℕ) → Type 0
WritesWithVisits tree input text visits =
    OverPlan tree (λ plan. (logs : List (List Visit)) × OfBytes input (λ script. MeansOverWith plan script text logs) × (visits ≡ visits_text logs))

-- A trace that runs over a tree at a pace writes this report.
abbrev pub ReportsOver : (tree trace : Option (List ℕ)) → (pace : Pace) → (text : List ℕ) → Type 0
ReportsOver tree trace pace text = OverPlan tree (λ plan. (logs : List (List Visit)) × RunWrites plan pace trace text logs)

-- A trace that runs over a tree at a pace writes this report, and this visit file.
abbrev pub ReportsWithVisits : (tree trace : Option (List ℕ)) → (pace : Pace) → (text visits : List ℕ) → Type 0
ReportsWithVisits tree trace pace text visits = OverPlan tree (λ plan. (logs : List (List Visit)) × RunWrites plan pace trace text logs × (visits ≡ visits_text logs))

-- A trace that runs through inlets over a tree at a pace writes this report, and this script is the record of the run.
abbrev pub LivesOver : (tree trace : Option (List ℕ)) → (pace : Pace) → (recording : Bool) → (text lines : List ℕ) → Type 0
LivesOver tree trace pace recording text lines = OverPlan tree (λ plan. LiveWrites plan pace trace recording text lines)

-- A run was recorded whose record is this script, which ends in the report, and this is the visit file of the record.
abbrev pub LivesWithVisits : (tree trace : Option (List ℕ)) → (pace : Pace) → (text lines visits : List ℕ) → Type 0
LivesWithVisits tree trace pace text lines visits =
    OverPlan tree (λ plan. LiveWrites plan pace trace true text lines × (logs : List (List Visit)) × EndsIn plan lines text logs × (visits ≡ visits_text logs))

-- A call writes a text and then a visit file to a sink of its own, of which `taken` says what it took. If it succeeded, it wrote both. If
-- a sink failed, it wrote a front of the text and left the other sink as it was, or the text and a front of the visits. At any other fault
-- it wrote nothing.
pub record WroteBoth {T V : Type 0} (Means : List ℕ → List ℕ → Type 0) (old new : Option (List ℕ)) (result : Result T Fault) (taken : V → Option (List ℕ)) (before after : V) : Type 0 where
  pub whole : OnOk result ((text : List ℕ) × (visits : List ℕ) × Means text visits × Appends old new text × Appends (taken before) (taken after) visits)
  pub front : IsErrOf result Write → (text : List ℕ) × (visits : List ℕ) × Means text visits
      × ((AppendsFront old new text × (after ≡ before)) ⊎ (Appends old new text × AppendsFront (taken before) (taken after) visits))
  pub nothing : IfErr result (λ fault. fault ≢ Write → Keeps old new × (after ≡ before))

-- A call writes a script to a sink of its own, after a first text and before a last. If it succeeded, it wrote the script whole. The
-- script's sink is as it was unless the first is whole (`First`), and the last isn't begun (`Unbegun`) unless the script is whole.
pub record WroteBetween {T R : Type 0} (script : List ℕ) (result : Result T Fault) (taken : R → Option (List ℕ)) (before after : R) (First Unbegun : Type 0) : Type 0 where
  pub whole : OnOk result (Appends (taken before) (taken after) script)
  pub front : AppendsFront (taken before) (taken after) script
  pub follows : (after ≡ before) ⊎ First
  pub leads : Unbegun ⊎ Appends (taken before) (taken after) script

-- The text of the built-in tree.
abbrev pub builtin_text : List ℕ
builtin_text = TEXT.now

-- the bytes of an input: those of standard input where its path stands for that; of a file none are known
abbrev pub bytes_at : Text → Option (List ℕ) → Option (List ℕ)
bytes_at path input = if bytes_eq path dash then input else None

-- An answer and its visits, one after the other.
pub record AreTogether (Means : List ℕ → List ℕ → Type 0) (all : List ℕ) : Type 0 where
  pub answer : List ℕ
  pub visits : List ℕ
  pub means : Means answer visits
  pub together : all ≡ answer ++ visits

-- What goes to standard output: an answer, and then its visits if they follow it there.
abbrev pub GoesOut : Bool → (List ℕ → Type 0) → (List ℕ → List ℕ → Type 0) → List ℕ → Type 0
GoesOut false IsAnswer Means all = IsAnswer all
GoesOut true IsAnswer Means all = AreTogether Means all

-- This was done over a tree and a second input with these bytes, as far as they are known: one of the work's texts was written.
abbrev pub DoesWork : Work → (tree input : Option (List ℕ)) → (List ℕ → Type 0) → Type 0
DoesWork lint_trace tree input Written = (text : List ℕ) × LintsOver tree input text × Written text
DoesWork (script visits) tree input Written =
    (all : List ℕ) × GoesOut (visits_follow visits) (WritesOver tree input) (WritesWithVisits tree input) all × Written all
DoesWork (run step limit visits) tree input Written =
    (all : List ℕ) × (pace : Pace) × (pace.step ≡ step) × (pace.limit ≡ limit)
    × GoesOut (visits_follow visits) (ReportsOver tree input pace) (ReportsWithVisits tree input pace) all × Written all
DoesWork (live step limit record_file visits) tree input Written =
    (all : List ℕ) × (lines : List ℕ) × (pace : Pace) × (pace.step ≡ step) × (pace.limit ≡ limit)
    × GoesOut (visits_follow visits) (λ text. LivesOver tree input pace (is_recorded record_file visits) text lines)
    (λ text rows. LivesWithVisits tree input pace text lines rows) all
    × Written all

-- This was done for a task, if standard input held these bytes: one of the task's texts was written.
abbrev pub Does : Task → Option (List ℕ) → (List ℕ → Type 0) → Type 0
Does builtin input Written = (text : List ℕ) × WritesOver (Some builtin_text) input text × Written text
Does (check tree) input Written = (text : List ℕ) × IsCanonicalOf (bytes_at tree input) text × Written text
Does (lint tree) input Written = (text : List ℕ) × IsLintOf (bytes_at tree input) text × Written text
Does (over tree path job) input Written = DoesWork job (bytes_at tree input) (bytes_at path input) Written

-- Help or the version was asked for: clap may return an error of that kind.
abbrev pub IsQuestion : Kinds → Type 0
IsQuestion kinds = IsAmong DisplayHelp kinds ⊎ IsAmong DisplayVersion kinds

-- The words are wrong: clap may return an error that is no question for help or the version.
abbrev pub IsMistake : Kinds → Type 0
IsMistake kinds = (kind : ErrorKind) × IsAmong kind kinds × (kind ≢ DisplayHelp) × (kind ≢ DisplayVersion)

-- Why a task over a tree fails with a fault: a writer failed, or the tree has it, or it is refused over the tree's plan.
abbrev pub ExplainsOver : Option (List ℕ) → (List Planned → Fault → Type 0) → Fault → Type 0
ExplainsOver tree Refused fault = ((fault ≡ Write) ⊎ ExplainsTree tree fault) ⊎ OverPlan tree (λ plan. Refused plan fault)

-- Why some work over a tree and a second input with these bytes fails with a fault.
abbrev pub ExplainsWork : Work → (tree input : Option (List ℕ)) → Fault → Type 0
ExplainsWork lint_trace tree input = ExplainsOver tree (λ plan. ExplainsLint plan input)
ExplainsWork (script visits) tree input = ExplainsOver tree (λ plan. ExplainsPlan plan input)
ExplainsWork (run step limit visits) tree input = ExplainsOver tree (λ plan. ExplainsRun plan input)
ExplainsWork (live step limit record_file visits) tree input = ExplainsOver tree (λ plan. ExplainsLive plan input limit (is_recorded record_file visits))

-- Why a task fails with a fault, if standard input held these bytes.
abbrev pub ExplainsTask : Task → Option (List ℕ) → Fault → Type 0
ExplainsTask builtin input fault = ExplainsOver (Some builtin_text) (λ plan. ExplainsPlan plan input) fault
ExplainsTask (check tree) input fault = (fault ≡ Write) ⊎ ExplainsTree (bytes_at tree input) fault
ExplainsTask (lint tree) input fault = (fault ≡ Write) ⊎ ExplainsTree (bytes_at tree input) fault
ExplainsTask (over tree path job) input fault = ExplainsWork job (bytes_at tree input) (bytes_at path input) fault
