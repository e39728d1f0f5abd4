-- What the answer to a script is.
use Rattle.std.specs.Prelude.{◌≡◌, ℕ, List, [], ◌++◌, length, map, zero, suc, nat_lt, Bool, if◌then◌else◌, Option, Some, None, IfSome, MatchOption, ⊤, codes, decimal}
use Rattle.std.specs.Option.{option_map_or}
use Rattle.std.specs.List.{flat_map}
use Rattle.clk_packet.specs.declared.packet.Packet.{Packet}
use Rattle.clk_packet.specs.declared.packet.Offered.{Offered}
use Rattle.clk_packet.specs.declared.packet.Offered.TheVariants.{Accepted, Refused, Evicted}
use Rattle.clk_packet.specs.declared.fault.Fault.{Fault}
use Rattle.clk_packet.specs.declared.fault.Fault.TheVariants.{Memory, UnknownSender, BadScript, TooLarge, Read, Write}
use Rattle.clk_script.specs.declared.script.Command.{Command}
use Rattle.clk_script.specs.declared.script.Command.TheVariants.{Send, Pull}
use Rattle.clk_sched.specs.declared.visit.Visit.{Visit}
use Rattle.clk_sched.specs.Tree.{Tree}
use Rattle.clk_sched.specs.Log.{visits_of, result_of}
use Rattle.clk_sched.specs.Results.{emitted}
use Rattle.clk_tree.specs.Plan.{Planned}
use Rattle.clk_tree.specs.PlanParts.{number_of, senders_of}
use Rattle.clk_tree.specs.PlanTree.{device_count}
use Rattle.clk_tree.specs.Shares.{AreTreesOf}
use Rattle.clk_script.specs.Script.{Names, script_fault, commands_of, closing_moment}
use Rattle.clk_report.specs.Report.{report_text}
use Rattle.clk_router.specs.Events.{Setup, plan_setup, sender_numbers, Event, emitted_in, events_at, tally_after, CanHappen, Closes, logs_of, offered, pulled}

-- what a script may name over a setup
abbrev pub names_of : Setup → Names
names_of setup = record { senders = sender_numbers setup; devices = length setup.trees }

-- the command of an event
abbrev pub command_of : Event → Command
command_of (offered p outcome) = Send p.sender p.length
command_of (pulled device moment visits) = Pull device moment

-- `S#n`
abbrev pub name_text : Packet → List ℕ
name_text p = decimal p.sender ++ (codes "#" ++ decimal p.number)

-- `S#n L`
abbrev pub packet_text : Packet → List ℕ
packet_text p = name_text p ++ (codes " " ++ decimal p.length)

-- ` accepted`, ` refused`, or ` accepted evicted T#k`
abbrev pub outcome_text : Offered → List ℕ
outcome_text Accepted = codes " accepted"
outcome_text (Refused p) = codes " refused"
outcome_text (Evicted front) = codes " accepted evicted " ++ name_text front

-- `S#n L`, or `none`
abbrev pub result_text : Option Packet → List ℕ
result_text got = option_map_or packet_text got (codes "none")

-- the number of the device in a pull's line, if there are several devices
abbrev pub device_text : Bool → ℕ → List ℕ
device_text several device = if several then codes " " ++ decimal device else []

-- whether a setup has several devices
abbrev pub has_several : Setup → Bool
has_several setup = nat_lt 1 (length setup.trees)

-- `pull M: S#n L`, or `pull M: none`; if there are several devices `pull M D: ..`
abbrev pub pull_text : Bool → ℕ → ℕ → Option Packet → List ℕ
pull_text several device moment got =
    codes "pull " ++ (decimal moment ++ (device_text several device ++ (codes ": " ++ (result_text got ++ codes "\n"))))

-- the line of an offer
abbrev pub offer_text : Packet → Offered → List ℕ
offer_text p outcome = packet_text p ++ (outcome_text outcome ++ codes "\n")

-- the line of an event
abbrev pub event_text : Bool → Event → List ℕ
event_text several (offered p outcome) = offer_text p outcome
event_text several (pulled device moment visits) = pull_text several device moment (result_of (visits_of 0 visits))

-- the line of a pull of a drain; no line if it gave no packet
abbrev pub closing_text : Bool → Event → List ℕ
closing_text several event = option_map_or (λ (p : Packet). event_text several event) (emitted_in event) []

-- The first so many devices were drained from a moment on, after some events: one after the other, by number.
abbrev pub CloseFirst : Setup → ℕ → ℕ → List Event → List Event → Type 0
CloseFirst setup moment zero events closed = closed ≡ []
CloseFirst setup moment (suc d) events closed =
    (before : List Event) × (last : List Event) × CloseFirst setup moment d events before × Closes d moment (events_at setup d (events ++ before)) last × (closed ≡ before ++ last)

-- All devices were drained from this moment on, one after the other; if a script has no drain, no device was.
abbrev pub IsClosed : Setup → Option ℕ → List Event → List Event → Type 0
IsClosed setup drain events closed = MatchOption drain (closed ≡ []) (λ moment. CloseFirst setup moment (length setup.trees) events closed)

-- the report, if a script has a drain; otherwise nothing
abbrev pub ending_text : Setup → Option ℕ → List Event → List ℕ
ending_text setup drain events =
    option_map_or (λ (moment : ℕ). report_text (flat_map emitted (logs_of setup events)) (map (tally_after events) (sender_numbers setup))) drain []

-- The lines of events, in order, those of the pulls of the drain, and then the report if there is a drain.
abbrev pub course_text : Setup → Option ℕ → List Event → List Event → List ℕ
course_text setup drain events closed =
    flat_map (event_text (has_several setup)) events ++ (flat_map (closing_text (has_several setup)) closed ++ ending_text setup drain (events ++ closed))

-- The commands, and the drain if there is one, write this text: the lines of events with these commands, of the pulls of the drain, and of
-- the report. All these can happen one after another. Each device's log has the visits of all its pulls, in order.
pub record Writes (setup : Setup) (commands : List Command) (drain : Option ℕ) (text : List ℕ) (logs : List (List Visit)) : Type 0 where
  pub events : List Event
  pub theirs : map command_of events ≡ commands
  pub closed : List Event
  pub closes : IsClosed setup drain events closed
  pub can_happen : CanHappen setup (events ++ closed)
  pub lines : text ≡ course_text setup drain events closed
  pub logged : logs ≡ logs_of setup (events ++ closed)

-- The text is the meaning of the script over the setup, with these logs: the script has no fault, and writes the text.
pub record MeansWith (setup : Setup) (script text : List ℕ) (logs : List (List Visit)) : Type 0 where
  pub sound : script_fault (names_of setup) script ≡ None
  pub written : Writes setup (commands_of script) (closing_moment script) text logs

-- The text is the meaning of the script over the setup, with some logs.
abbrev pub IsMeaning : Setup → List ℕ → List ℕ → Type 0
IsMeaning setup script text = (logs : List (List Visit)) × MeansWith setup script text logs

-- Why running a script fails: an allocation, the reader or the writer failed, or the script has this fault, if its bytes are known. A drain
-- never stops short.
abbrev pub Explains : Names → Option (List ℕ) → Fault → Type 0
Explains names script Memory = ⊤
Explains names script Read = ⊤
Explains names script Write = ⊤
Explains names script TooLarge = IfSome script (λ bytes. script_fault names bytes ≡ Some TooLarge)
Explains names script (BadScript line) = IfSome script (λ bytes. script_fault names bytes ≡ Some (BadScript line))
Explains names script (UnknownSender sender) = IfSome script (λ bytes. script_fault names bytes ≡ Some (UnknownSender sender))
Explains names script fault = ⊥

-- The text is the meaning of the script over a plan, with these logs: it is its meaning over the plan's setup.
pub record MeansOverWith (plan : List Planned) (script text : List ℕ) (logs : List (List Visit)) : Type 0 where
  pub trees : List Tree
  pub are : AreTreesOf plan trees
  pub means : MeansWith (plan_setup trees plan) script text logs

-- The text is the meaning of the script over the plan, with some logs.
abbrev pub MeansOver : List Planned → List ℕ → List ℕ → Type 0
MeansOver plan script text = (logs : List (List Visit)) × MeansOverWith plan script text logs

-- what a script may name over a plan
abbrev pub names_over : List Planned → Names
names_over plan = record { senders = map number_of (senders_of plan); devices = device_count plan }

-- Why running a script over a plan fails with a fault.
abbrev pub ExplainsPlan : List Planned → Option (List ℕ) → Fault → Type 0
ExplainsPlan plan script fault = Explains (names_over plan) script fault
