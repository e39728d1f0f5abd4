-- What an answer keeps of each command of a script, and what it writes of it.
use Rattle.std.specs.Prelude.{◌≡◌, ℕ, ◌<◌, ◌≤◌, List, [], ◌∷◌, ◌++◌, length, map, drop, ◌+◌, Bool, true, if◌then◌else◌, Option, Some, None, IfSome, Vec, slice_get}
use Rattle.std.specs.Option.{is_some}
use Rattle.std.specs.List.{flat_map, filter_map, cons_option, AllByRecursion, AllZip}
use Rattle.std.specs.declared.alloc.Global.{Global}
use Rattle.clk_packet.specs.declared.packet.Packet.{Packet}
use Rattle.clk_packet.specs.declared.packet.Offered.{Offered}
use Rattle.clk_packet.specs.declared.packet.Offered.TheVariants.{Accepted, Refused, Evicted}
use Rattle.clk_sched.specs.declared.session.departures.Departure.{Departure}
use Rattle.clk_sched.specs.Log.{visits_of, result_of}
use Rattle.clk_report.specs.Devices.{lists_of}
use Rattle.clk_script.specs.declared.script.Command.{Command}
use Rattle.clk_script.specs.declared.script.Command.TheVariants.{Send, Pull}
use Rattle.clk_script.specs.declared.script.ScriptLine.{ScriptLine}
use Rattle.clk_script.specs.declared.rows.Fate.{Fate}
use Rattle.clk_script.specs.declared.rows.Fate.TheVariants as fate
use Rattle.clk_script.specs.declared.rows.ScriptRow.{ScriptRow}
use Rattle.clk_script.specs.declared.rows.ScriptRow.TheVariants as row
use Rattle.clk_script.specs.declared.reading.Script.{Script}
use Rattle.clk_script.specs.declared.answer.Answer.{Answer}
use Rattle.clk_script.specs.declared.script_router.ScriptRouter.{ScriptRouter}
use Rattle.clk_script.specs.Script.{Names, command_in, drain_in}
use Rattle.clk_script.specs.declared.limits.TheConstants.{MAX_LINES, MAX_MOMENT}
use Rattle.clk_sched.specs.Results.{emitted}
use Rattle.clk_router.specs.Course.{events_of}
use Rattle.clk_router.specs.Events.{Setup, Event, offered, pulled, emitted_in, log_of, logs_of}
use Rattle.clk_script.specs.Meaning.{names_of, has_several, command_of, offer_text, pull_text, closing_text, Writes}
use Rattle.clk_script.specs.AccountLines.{account_line}
use Rattle.clk_script.specs.inside.ScriptRouter.{IsAt, departure_text, LeadsOnByClosing}

-- the command of a row, whether it was carried out or not
abbrev pub command_asked : ScriptRow → Command
command_asked (row.Send fate place p) = Send p.sender p.length
command_asked (row.Pull gave device moment) = Pull device moment

-- the row of a line as a list: one, or none
abbrev pub rows_of : Option ScriptRow → List ScriptRow
rows_of row = cons_option row []

-- the commands of these rows
abbrev pub asked_by : List ScriptRow → List Command
asked_by rows = map command_asked rows

-- the command of a line as a list: one, or none
abbrev pub asked_in : ScriptLine → List Command
asked_in l = cons_option (command_in l) []

-- a row that can be carried out: its sender stands at its place, or its device exists and its moment is in range
abbrev pub IsToDo : Names → ScriptRow → Type 0
IsToDo names (row.Send fate place p) = slice_get names.senders place ≡ Some p.sender
IsToDo names (row.Pull gave device moment) = (device < names.devices) × (moment ≤ MAX_MOMENT)

-- the outcome of an offer, as its row keeps it
abbrev pub fate_of : Offered → Fate
fate_of Accepted = fate.Accepted
fate_of (Refused p) = fate.Refused
fate_of (Evicted front) = fate.Evicting

-- the row of an event; its sender, if it has one, stands at this place
abbrev pub row_at : ℕ → Event → ScriptRow
row_at place (offered p outcome) = row.Send (fate_of outcome) place p
row_at place (pulled device moment visits) = row.Pull (is_some (result_of (visits_of 0 visits))) device moment

-- a row of an event, wherever its sender stands
abbrev pub IsRowOf : Event → ScriptRow → Type 0
IsRowOf e r = (place : ℕ) × (r ≡ row_at place e)

-- The script holds what these lines say.
pub record IsReadFrom (lines : List ScriptLine) (script : Script) : Type 0 where
  pub rows : asked_by script.rows.items ≡ filter_map command_in lines
  pub closing : script.closing ≡ slice_get (filter_map drain_in lines) 0

-- A script can be run: it names only what exists, has few enough rows, and its drain has a moment in range.
pub record CanBeRun (names : Names) (script : Script) : Type 0 where
  pub to_do : AllByRecursion (IsToDo names) script.rows.items
  pub few : length script.rows.items ≤ MAX_LINES
  pub closing : IfSome script.closing (λ moment. moment ≤ MAX_MOMENT)

-- More events led on from these. They are those of the commands that were asked for, and each has its row, which can be carried out again.
-- If there are several devices, the packets that pulls gave were added to those that were kept.
pub record CarriesOut (setup : Setup) (old new : ScriptRouter) (asked done : List ScriptRow) (events : List Event) : Type 0 where
  pub more : List Event
  pub theirs : asked_by asked ≡ map command_of more
  pub rows : AllZip IsRowOf more done
  pub to_do : AllByRecursion (IsToDo (names_of setup)) done
  pub given : has_several setup ≡ true → new.given.items ≡ old.given.items ++ filter_map emitted_in more
  pub keeps : new.router.keeps ≡ old.router.keeps
  pub leads : IsAt setup (events ++ more) new

-- Carrying out these rows led on from any events that led to the old script_router.
abbrev pub AnswersRows : ScriptRouter → ScriptRouter → List ScriptRow → List ScriptRow → Type 0
AnswersRows old new asked done = (setup : Setup) (events : List Event) → IsAt setup events old → CarriesOut setup old new asked done events

-- the outcome of a packet that was accepted, with the packet that was evicted for it, if one was
abbrev pub evicted_as : Option Packet → Offered
evicted_as None = Accepted
evicted_as (Some front) = Evicted front

-- the outcome of a packet by what its row keeps of it; `front` is the next packet that was evicted
abbrev pub offered_as : Packet → Fate → Option Packet → Offered
offered_as p fate.Accepted front = Accepted
offered_as p fate.Refused front = Refused p
offered_as p fate.Evicting front = evicted_as front

-- the line of a row, if these packets are given and these are evicted from it on
abbrev pub row_text : Bool → ScriptRow → List Packet → List Packet → List ℕ
row_text several (row.Send fate place p) given fronts = offer_text p (offered_as p fate (slice_get fronts 0))
row_text several (row.Pull gave device moment) given fronts = pull_text several device moment (if gave then slice_get given 0 else None)

-- what is left of the packets that were given, after a row
abbrev pub given_after : ScriptRow → List Packet → List Packet
given_after (row.Send fate place p) given = given
given_after (row.Pull gave device moment) given = if gave then drop 1 given else given

-- what is left of the packets that were evicted, after an offer with this outcome
abbrev pub fronts_left : Fate → List Packet → List Packet
fronts_left fate.Evicting fronts = drop 1 fronts
fronts_left fate fronts = fronts

-- what is left of the packets that were evicted, after a row
abbrev pub fronts_after : ScriptRow → List Packet → List Packet
fronts_after (row.Send fate place p) fronts = fronts_left fate fronts
fronts_after (row.Pull gave device moment) fronts = fronts

-- the lines of these rows, if these packets are given and these are evicted from the first on
abbrev pub rows_text : Bool → List ScriptRow → List Packet → List Packet → List ℕ
rows_text several [] given fronts = []
rows_text several (r ∷ rows) given fronts = row_text several r given fronts ++ rows_text several rows (given_after r given) (fronts_after r fronts)

-- the lines of the drains of devices, from this number on, which emitted these packets
abbrev pub closings_text : Bool → ℕ → List (List Departure) → List ℕ
closings_text several device [] = []
closings_text several device (departures ∷ closings) = flat_map (departure_text several device) departures ++ closings_text several (device + 1) closings

-- The first `devices` devices of a router were drained from a moment on, after these events. The lines of the packets that they emitted are
-- the lines of the pulls.
pub record ClosesFirst (setup : Setup) (new : ScriptRouter) (moment devices : ℕ) (closings : List (List Departure)) (events : List Event) : Type 0 where
  pub closing : LeadsOnByClosing setup new moment devices events
  pub lines : flat_map (closing_text (has_several setup)) closing.closed ≡ closings_text (has_several setup) 0 closings

-- The devices of a router were drained from a moment on, and each emitted these packets.
pub record IsClosedAt (old new : ScriptRouter) (moment : ℕ) (closings : List (List Departure)) : Type 0 where
  pub closings_count : length closings ≡ length old.router.setup.trees
  pub given : new.given ≡ old.given
  pub keeps : new.router.keeps ≡ old.router.keeps
  pub closes : (setup : Setup) (events : List Event) → IsAt setup events old → ClosesFirst setup new moment (length old.router.setup.trees) closings events

-- The devices were drained from this moment on, if there is one.
abbrev pub IsClosedFrom : ScriptRouter → ScriptRouter → Option ℕ → Option (List (List Departure)) → Type 0
IsClosedFrom old new None None = new ≡ old
IsClosedFrom old new None (Some closings) = ⊥
IsClosedFrom old new (Some moment) None = ⊥
IsClosedFrom old new (Some moment) (Some closings) = IsClosedAt old new moment closings

-- the packets that devices emitted in their drains, as lists
abbrev pub closings_of : Option (Vec (Vec Departure Global) Global) → Option (List (List Departure))
closings_of None = None
closings_of (Some closings) = Some (lists_of closings.items)

-- the packets that pulls gave; those of a single device are the first that it emitted
abbrev pub given_of : ScriptRouter → List Packet
given_of r = if has_several r.router.setup then r.given.items else emitted (log_of (events_of r.router 0))

-- the lines of the drain that emitted these packets, if there was one, and then the report
abbrev pub ending_of : ScriptRouter → Option (List (List Departure)) → List ℕ
ending_of r None = []
ending_of r (Some closings) = closings_text (has_several r.router.setup) 0 closings ++ flat_map account_line r.accounts.items

-- all that an answer writes
abbrev pub answer_text : Answer → List ℕ
answer_text answer =
    rows_text (has_several answer.script_router.router.setup) answer.rows.items (given_of answer.script_router) answer.script_router.evicted.items
    ++ ending_of answer.script_router (closings_of answer.closing)

-- The answer to these commands, with a drain if there is one: what it writes, and what happened to the router over which they were carried
-- out. Each command has its row, which can be carried out again.
pub record Answers (setup : Setup) (commands : List Command) (drain : Option ℕ) (answer : Answer) : Type 0 where
  pub writes : Writes setup commands drain (answer_text answer) (logs_of setup answer.script_router.router.events)
  pub setup_is : answer.script_router.router.setup ≡ setup
  pub events_are : answer.script_router.router.events ≡ writes.events ++ writes.closed
  pub rows : AllZip IsRowOf writes.events answer.rows.items
  pub to_do : AllByRecursion (IsToDo (names_of setup)) answer.rows.items
