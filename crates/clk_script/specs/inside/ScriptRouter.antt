-- What the router of a script keeps, in the words of the definitions.
use Rattle.std.specs.Prelude.{◌≡◌, ℕ, Bool, ◌<◌, ◌≤◌, List, [], ◌∷◌, ◌++◌, length, map, true, false, nat_lt, if◌then◌else◌, ◌==◌, ⊤, Option, Some}
use Rattle.std.specs.List.{list_any, flat_map, filter_map, cons_option, AllByRecursion}
use Rattle.clk_packet.specs.declared.packet.Packet.{Packet}
use Rattle.clk_packet.specs.declared.packet.Offered.{Offered}
use Rattle.clk_packet.specs.declared.packet.Offered.TheVariants.{Evicted}
use Rattle.clk_packet.specs.declared.limits.TheConstants.{MAX_ELEMENTS}
use Rattle.clk_packet.specs.Lists.{AreRising}
use Rattle.clk_sched.specs.declared.session.departures.Departure.{Departure}
use Rattle.clk_sched.specs.declared.visit.Visit.{Visit}
use Rattle.clk_sched.specs.Log.{visits_of, result_of}
use Rattle.clk_router.specs.declared.accounts.Account.{Account}
use Rattle.clk_router.specs.Accounts.{account_after, account_sender}
use Rattle.clk_router.specs.Course.{Course, events_of}
use Rattle.clk_router.specs.Events.{Setup, sender_numbers, Event, pulled, events_at, evicted_in, CanHappen, Closes}
use Rattle.clk_script.specs.declared.script_router.ScriptRouter.{ScriptRouter}
use Rattle.clk_script.specs.declared.script.Command.{Command}
use Rattle.clk_script.specs.declared.script.Command.TheVariants.{Send, Pull}
use Rattle.clk_script.specs.declared.script.ScriptLine.{ScriptLine}
use Rattle.clk_script.specs.declared.script.ScriptLine.TheVariants as line
use Rattle.clk_script.specs.Script.{Names}
use Rattle.clk_script.specs.declared.limits.TheConstants.{MAX_LINES, MAX_MOMENT}
use Rattle.clk_script.specs.Meaning.{names_of, command_of, has_several, pull_text, closing_text, CloseFirst}

-- some sender's account stands at this place
abbrev pub IsPlace : List Account → ℕ → Type 0
IsPlace accounts place = place < length accounts

-- what a script may name: senders of these numbers, and the first `devices` devices
abbrev pub named_by : List ℕ → ℕ → Names
named_by numbers devices = record { senders = numbers; devices = devices }

-- what a script may name over the router of a script_router
abbrev pub names_in : ScriptRouter → Names
names_in r = names_of r.router.setup

-- The router is where these events lead over a setup.
pub record IsAt (setup : Setup) (events : List Event) (r : ScriptRouter) : Type 0 where
  pub can_happen : CanHappen setup events
  pub setup_is : r.router.setup ≡ setup
  pub events_are : r.router.events ≡ events
  pub accounts : r.accounts.items ≡ map (account_after events) setup.senders
  pub evicted : r.evicted.items ≡ filter_map evicted_in events

-- Nothing has happened over this setup. It has at least one device and not too many, and senders by rising numbers.
pub record Starts (setup : Setup) (r : ScriptRouter) : Type 0 where
  pub some : 1 ≤ length setup.trees
  pub few : length setup.trees ≤ MAX_ELEMENTS
  pub rising : AreRising (sender_numbers setup)
  pub leads : IsAt setup [] r
  pub given : r.given.items ≡ []
  pub keeps : r.router.keeps.packets ≡ true

-- a command whose numbers are in the range of a script
abbrev pub IsReadable : Command → Type 0
IsReadable (Send sender length) = 1 ≤ length
IsReadable (Pull device moment) = moment ≤ MAX_MOMENT

-- a line whose numbers are in the range of a script
abbrev pub IsReadableLine : ScriptLine → Type 0
IsReadableLine line.Blank = ⊤
IsReadableLine line.Malformed = ⊤
IsReadableLine (line.Command command) = IsReadable command
IsReadableLine (line.Drain moment) = moment ≤ MAX_MOMENT

-- a command that names a sender or a device that exists
abbrev pub IsSound : Names → Command → Type 0
IsSound names (Send sender length) = (list_any (λ s. s == sender) names.senders ≡ true) × (1 ≤ length)
IsSound names (Pull device moment) = device < names.devices

-- The accounts are those of the senders, whose numbers rise.
pub record AreAlike (r : ScriptRouter) : Type 0 where
  pub numbers : map account_sender r.accounts.items ≡ sender_numbers r.router.setup
  pub rising : AreRising (sender_numbers r.router.setup)

-- No more has happened than a script may ask for.
pub record IsReady (r : ScriptRouter) : Type 0 where
  pub few : length r.router.events ≤ MAX_LINES
  pub readable : AllByRecursion IsReadable (map command_of r.router.events)
  pub alike : AreAlike r

-- One more pull of a device, at a moment that was handed in, led on from these events to this result.
pub record LeadsOnByPull (setup : Setup) (new : ScriptRouter) (device moment : ℕ) (got : Option Packet) (events : List Event) : Type 0 where
  pub visits : List Visit
  pub result : result_of (visits_of 0 visits) ≡ got
  pub leads : IsAt setup (events ++ pulled device moment visits ∷ []) new

-- the packets that pulls gave, after one more pull; they are kept only if there are several devices
abbrev pub given_kept : ScriptRouter → Option Packet → List Packet
given_kept r got = if nat_lt 1 (length r.router.setup.trees) then r.given.items ++ cons_option got [] else r.given.items

-- Only the kept packets that pulls gave changed in a script_router.
abbrev pub ChangesGiven : ScriptRouter → ScriptRouter → Type 0
ChangesGiven old new = new ≡ record old { given = new.given }

-- the packets that were evicted, after one more offer
abbrev pub evicted_kept : Offered → List Packet → List Packet
evicted_kept (Evicted front) fronts = fronts ++ front ∷ []
evicted_kept outcome fronts = fronts

-- the line of a packet that a device emitted in its drain
abbrev pub departure_text : Bool → ℕ → Departure → List ℕ
departure_text several device departure = pull_text several device departure.moment (Some departure.packet)

-- A drain of a device from a moment on led on from these events, and emitted these packets.
pub record LeadsOnByDrain (setup : Setup) (new : ScriptRouter) (device moment : ℕ) (events : List Event) (departures : List Departure) : Type 0 where
  pub last : List Event
  pub closes : Closes device moment (events_at setup device events) last
  pub lines : flat_map (closing_text (has_several setup)) last ≡ flat_map (departure_text (has_several setup) device) departures
  pub leads : IsAt setup (events ++ last) new

-- Nothing happened at other devices.
abbrev pub StaysElsewhere : ℕ → Course → Course → Type 0
StaysElsewhere device old new = (k : ℕ) → (device == k) ≡ false → events_of new k ≡ events_of old k

-- The drain of the first `devices` devices from a moment on led on from these events.
pub record LeadsOnByClosing (setup : Setup) (new : ScriptRouter) (moment devices : ℕ) (events : List Event) : Type 0 where
  pub closed : List Event
  pub closes : CloseFirst setup moment devices events closed
  pub leads : IsAt setup (events ++ closed) new
