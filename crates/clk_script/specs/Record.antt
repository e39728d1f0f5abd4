-- The script that records what happened, and the law that it means exactly that (this project's own).
use Rattle.std.specs.Prelude.{ℕ, zero, suc, ◌+◌, ◌≤◌, ◌<◌, ◌^◌, List, [], ◌++◌, length, map, Option, Some, None, IfSome, codes, decimal}
use Rattle.std.specs.List.{flat_map, filter_map, AllByRecursion}
use Rattle.clk_packet.specs.declared.limits.TheConstants.{MAX_SENDER}
use Rattle.clk_sched.specs.Tree.{Tree}
use Rattle.clk_tree.specs.Plan.{Planned}
use Rattle.clk_router.specs.Events.{Setup, plan_setup, Event, offered, pulled, moment_in, IsOfSender, CanHappen, logs_of}
use Rattle.clk_script.specs.declared.script.Command.{Command}
use Rattle.clk_script.specs.declared.script.Command.TheVariants.{Send, Pull}
use Rattle.clk_script.specs.declared.limits.TheConstants.{MAX_LINES, MAX_MOMENT, MAX_DEVICE}
use Rattle.clk_script.specs.Meaning.{command_of, course_text, IsClosed, MeansWith, IsMeaning, MeansOverWith}

-- how a line names the device that is pulled: device 0 by nothing, another by its number
abbrev pub named_device : ℕ → List ℕ
named_device zero = []
named_device (suc d) = codes " " ++ decimal (suc d)

-- The line of a command: `send S L`, `pull M` for device 0, or `pull M D`.
abbrev pub command_text : Command → List ℕ
command_text (Send sender size) = codes "send " ++ (decimal sender ++ (codes " " ++ (decimal size ++ codes "\n")))
command_text (Pull device moment) = codes "pull " ++ (decimal moment ++ (named_device device ++ codes "\n"))

-- The line of the drain, if there is one: `drain M`.
abbrev pub drain_text : Option ℕ → List ℕ
drain_text None = []
drain_text (Some moment) = codes "drain " ++ (decimal moment ++ codes "\n")

-- The record: a line for each command, in order, and then that of the drain.
abbrev pub record_text : List Command → Option ℕ → List ℕ
record_text commands drain = flat_map command_text commands ++ drain_text drain

-- how many lines the drain takes
abbrev pub drain_count : Option ℕ → ℕ
drain_count None = 0
drain_count (Some moment) = 1

-- the moment that a command hands in
abbrev pub handed_in : Command → Option ℕ
handed_in (Send sender size) = None
handed_in (Pull device moment) = Some moment

-- A record that has `lines` lines may go on with a line of this moment.
pub record HasRoom (lines : ℕ) (moment : Option ℕ) : Type 0 where
  pub few : lines < MAX_LINES
  pub early : IfSome moment (λ m. m ≤ MAX_MOMENT)

-- The moments that were handed in and that of the drain are in range, and there are at most as many lines as a script may have. The bytes
-- of a record need no limit of their own, since a line has at most 25.
pub record FitsLimits (events : List Event) (drain : Option ℕ) : Type 0 where
  pub moments : AllByRecursion (λ moment. moment ≤ MAX_MOMENT) (filter_map moment_in events)
  pub last : IfSome drain (λ moment. moment ≤ MAX_MOMENT)
  pub few : length events + drain_count drain ≤ MAX_LINES

-- A line can name the sender of an offer, or the device of a pull. The sender is one of the setup, and both have numbers in range.
abbrev pub FitsNames : Setup → Event → Type 0
FitsNames setup (offered p outcome) = IsOfSender setup (offered p outcome) × (p.sender ≤ MAX_SENDER)
FitsNames setup (pulled device moment visits) = device ≤ MAX_DEVICE

-- A script over the setup can record these events and this drain.
pub record FitsScript (setup : Setup) (events : List Event) (drain : Option ℕ) : Type 0 where
  pub names : AllByRecursion (FitsNames setup) events
  pub limits : FitsLimits events drain

-- If events and a drain can happen and fit, their record means exactly their lines, those of the drain and the report, with exactly their
-- logs.
abbrev pub RecordsMeanTheirCourse : Setup → Type 0
RecordsMeanTheirCourse setup =
    (events closed : List Event) (drain : Option ℕ) → CanHappen setup (events ++ closed) → IsClosed setup drain events closed → FitsScript setup events drain
    → MeansWith setup (record_text (map command_of events) drain) (course_text setup drain events closed) (logs_of setup (events ++ closed))

-- Over a plan with its trees the events need only be within the limits of a script, since a script can name all senders and devices of a
-- plan.
abbrev pub PlanRecordsMeanTheirCourse : List Planned → List Tree → Type 0
PlanRecordsMeanTheirCourse plan trees =
    (events closed : List Event) (drain : Option ℕ) → CanHappen (plan_setup trees plan) (events ++ closed) → IsClosed (plan_setup trees plan) drain events closed → FitsLimits events drain
    → MeansOverWith plan (record_text (map command_of events) drain) (course_text (plan_setup trees plan) drain events closed) (logs_of (plan_setup trees plan) (events ++ closed))

-- the numbers of a command have at most 64 bits
abbrev pub IsSmall : Command → Type 0
IsSmall (Send sender size) = (sender < 2 ^ 64) × (size < 2 ^ 64)
IsSmall (Pull device moment) = (device < 2 ^ 64) × (moment < 2 ^ 64)

-- Only events that fit have a record that means anything, if their numbers have at most 64 bits.
abbrev pub OnlyFittingRecordsMean : Setup → Type 0
OnlyFittingRecordsMean setup =
    (events : List Event) (drain : Option ℕ) (text : List ℕ) → AllByRecursion IsSmall (map command_of events) → IfSome drain (λ moment. moment < 2 ^ 64)
    → IsMeaning setup (record_text (map command_of events) drain) text → FitsScript setup events drain
