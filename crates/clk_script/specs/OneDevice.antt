-- What a script over one device means, without numbers of devices: all pulls are a run of its tree.
use Rattle.std.specs.Prelude.{◌≡◌, ℕ, List, [], ◌∷◌, ◌++◌, length, map, true, if◌then◌else◌, Option, None, Some, MatchOption, ⊤, codes, decimal, slice_get}
use Rattle.std.specs.Option.{option_map_or}
use Rattle.std.specs.List.{flat_map, range_with_len, AllByRecursion}
use Rattle.clk_packet.specs.declared.packet.Packet.{Packet}
use Rattle.clk_script.specs.declared.script.Command.{Command}
use Rattle.clk_sched.specs.declared.visit.Visit.{Visit}
use Rattle.clk_ring.specs.QueueHistory.{QueueEvent, offer_events, pull_event, IsQueueHistory}
use Rattle.clk_sched.specs.Tree.{Tree}
use Rattle.clk_sched.specs.Log.{visits_of, result_of}
use Rattle.clk_sched.specs.Results.{asks_queue, emitted}
use Rattle.clk_tree.specs.declared.plan.parts.SenderSpec.{SenderSpec}
use Rattle.clk_report.specs.Report.{report_text}
use Rattle.clk_script.specs.Script.{script_fault, commands_of, closing_moment}
use Rattle.clk_router.specs.Events.{Setup, sender_numbers, is_of_device, Event, offered, pulled, numbers_of, log_of, emitted_in, tally_after, sends_to, NamesItsOffer, RunsTree, Closes}
use Rattle.clk_script.specs.Meaning.{names_of, command_of, offer_text, result_text}

-- A setup has one device, with this tree, and each of its senders sends to a queue of it.
pub record HasOneDevice (setup : Setup) (tree : Tree) : Type 0 where
  pub trees : setup.trees ≡ tree ∷ []
  pub senders : AllByRecursion (λ (s : SenderSpec). is_of_device setup.queues 0 s ≡ true) setup.senders

-- an event as events of a queue of the tree
abbrev pub at_its_queue : Setup → Tree → ℕ → Event → List QueueEvent
at_its_queue setup tree q (offered p outcome) = if sends_to setup.senders p.sender q then offer_events p outcome else []
at_its_queue setup tree q (pulled device moment visits) = flat_map (λ (v : Visit). if asks_queue tree q v then pull_event v.got ∷ [] else []) visits

-- the history of a queue of the tree in these events
abbrev pub its_history : Setup → Tree → ℕ → List Event → List QueueEvent
its_history setup tree q events = flat_map (at_its_queue setup tree q) events

-- These events can happen one after another: the pulls are a run of the tree, and what happened to each queue is a history of it. Each pull
-- is made at the latest moment so far. Each sender numbers its packets from 0 on, and refusals name the packets that were offered.
pub record CanHappenAlone (setup : Setup) (tree : Tree) (events : List Event) : Type 0 where
  pub numbered : (s : ℕ) → numbers_of s events ≡ range_with_len 0 (length (numbers_of s events))
  pub runs : RunsTree tree events
  pub refusals : AllByRecursion NamesItsOffer events
  pub histories : (q : ℕ) → MatchOption (slice_get setup.queues q) ⊤ (λ room. IsQueueHistory room.kind room.capacity (its_history setup tree q events))

-- the line of a pull: `pull M: S#n L`, or `pull M: none`
abbrev pub pull_line : ℕ → Option Packet → List ℕ
pull_line moment got = codes "pull " ++ (decimal moment ++ (codes ": " ++ (result_text got ++ codes "\n")))

-- the line of an event
abbrev pub event_line : Event → List ℕ
event_line (offered p outcome) = offer_text p outcome
event_line (pulled device moment visits) = pull_line moment (result_of (visits_of 0 visits))

-- the line of a pull of the drain; no line if it gave no packet
abbrev pub closing_line : Event → List ℕ
closing_line event = option_map_or (λ (p : Packet). event_line event) (emitted_in event) []

-- The device was drained from this moment on; if a script has no drain, it was not.
abbrev pub IsClosedAlone : Option ℕ → List Event → List Event → Type 0
IsClosedAlone None events closed = closed ≡ []
IsClosedAlone (Some moment) events closed = Closes 0 moment events closed

-- the report, if a script has a drain; otherwise nothing
abbrev pub ending_alone : Setup → Option ℕ → List Event → List ℕ
ending_alone setup None events = []
ending_alone setup (Some moment) events = report_text (emitted (log_of events)) (map (tally_after events) (sender_numbers setup))

-- The commands, and the drain if there is one, write this text: the lines of events with these commands, of the pulls of the drain, and of
-- the report. All these can happen one after another.
pub record WritesAlone (setup : Setup) (tree : Tree) (commands : List Command) (drain : Option ℕ) (text : List ℕ) : Type 0 where
  pub events : List Event
  pub theirs : map command_of events ≡ commands
  pub closed : List Event
  pub closes : IsClosedAlone drain events closed
  pub can_happen : CanHappenAlone setup tree (events ++ closed)
  pub lines : text ≡ flat_map event_line events ++ (flat_map closing_line closed ++ ending_alone setup drain (events ++ closed))

-- The text is the meaning of the script over the device: the script has no fault, and writes the text.
pub record IsMeaningAlone (setup : Setup) (tree : Tree) (script text : List ℕ) : Type 0 where
  pub sound : script_fault (names_of setup) script ≡ None
  pub written : WritesAlone setup tree (commands_of script) (closing_moment script) text
