-- What a consumer does with a live router, step by step.
use Rattle.std.specs.Prelude.{◌≡◌, ℕ, ◌+◌, ◌*◌, ◌<◌, ◌≤◌, nat_lt, if◌then◌else◌, List, [], ◌∷◌, ◌++◌, length, map, false, ◌==◌}
use Rattle.std.specs.List.{filter_map, AllByRecursion}
use Rattle.clk_inlet.specs.declared.item.Item.{Item}
use Rattle.clk_packet.specs.declared.packet.Packet.{Packet}
use Rattle.clk_inlet.specs.Items.{packet_item}
use Rattle.clk_router.specs.Course.{Course, after, events_of, accepted_at, evicted_at, emitted_at}
use Rattle.clk_router.specs.Events.{Event, moment_in, Closes}
use Rattle.clk_router.specs.Settled.{offered_in}
use Rattle.clk_script.specs.declared.limits.TheConstants.{MAX_MOMENT}
use Rattle.clk_live.specs.State.{LiveState, seen, AllGoOn}
use Rattle.clk_live.specs.Outcome.{AreAllEnded}
use Rattle.clk_script.specs.declared.script.Command.{Command}
use Rattle.clk_script.specs.Meaning.{command_of, CloseFirst}
use Rattle.clk_live_run.specs.Run.{moments_at, paced}

-- the items of these packets, each with token 0
abbrev pub items_of : List Packet → List Item
items_of packets = map (λ p. packet_item p.length 0) packets

-- the commands of all that has happened
abbrev pub commands_of : Course → List Command
commands_of c = map command_of c.events

-- how many packets were taken from all inlets
abbrev pub items_in : List (List Item) → ℕ
items_in [] = 0
items_in (items ∷ more) = length items + items_in more

-- how many packets were taken from the inlets of a live router
abbrev pub taken_in : LiveState → ℕ
taken_in l = items_in (seen l).items

-- how many packets were offered to a live router
abbrev pub offers_in : LiveState → ℕ
offers_in l = length (filter_map offered_in l.course.events)

-- A script can name all moments that were handed in.
abbrev pub AreEarly : LiveState → Type 0
AreEarly l = AllByRecursion (λ m. m ≤ MAX_MOMENT) (filter_map moment_in l.course.events)

-- Only packets were taken: each of them is an event, and no device was pulled.
pub record OnlyTook (old new : LiveState) : Type 0 where
  pub setup : new.course.setup ≡ old.course.setup
  pub outlets : AllGoOn old.outlets new.outlets
  pub many : length new.course.events + taken_in old ≡ length old.course.events + taken_in new
  pub offers : offers_in new + taken_in old ≡ offers_in old + taken_in new
  pub handed_in : filter_map moment_in new.course.events ≡ filter_map moment_in old.course.events
  pub moments : (d : ℕ) → moments_at new.course.setup new.course.events d ≡ moments_at old.course.setup old.course.events d

-- the moment of one pull, if a device is among the first `count`
abbrev pub if_first : ℕ → ℕ → ℕ → List ℕ
if_first count moment d = if nat_lt d count then moment ∷ [] else []

-- The first `count` devices were pulled once each, at this moment.
pub record PulledFirst (count moment : ℕ) (old new : LiveState) : Type 0 where
  pub setup : new.course.setup ≡ old.course.setup
  pub outlets : new.outlets ≡ old.outlets
  pub many : length new.course.events ≡ length old.course.events + count
  pub offers : offers_in new ≡ offers_in old
  pub early : moment ≤ MAX_MOMENT → AreEarly old → AreEarly new
  pub moments : (d : ℕ) → moments_at new.course.setup new.course.events d ≡ moments_at old.course.setup old.course.events d ++ if_first count moment d

-- Each device was pulled `pulls` times, at the moments of its pulls, and each packet that was taken is an event.
pub record HasPaced (step pulls : ℕ) (l : LiveState) : Type 0 where
  pub many : length l.course.events ≡ taken_in l + length l.course.setup.trees * pulls
  pub offers : offers_in l ≡ taken_in l
  pub early : AreEarly l
  pub moments : (d : ℕ) → d < length l.course.setup.trees → moments_at l.course.setup l.course.events d ≡ paced step pulls

-- All inlets have ended, and all that was sent was taken. While senders sent, each device was pulled equally often.
pub record HasConsumed (step limit : ℕ) (old new : LiveState) : Type 0 where
  pub setup : new.course.setup ≡ old.course.setup
  pub outlets : AllGoOn old.outlets new.outlets
  pub ended : AreAllEnded new.outlets
  pub pulls : ℕ
  pub few : pulls ≤ limit
  pub paced : HasPaced step pulls new

-- A device was drained, until no packet is left for it. Nothing happened elsewhere.
pub record HasDrained (device : ℕ) (old new : LiveState) : Type 0 where
  pub last : List Event
  pub goes_on : new.course ≡ after old.course last
  pub closes : Closes device 0 (events_of old.course device) last
  pub none_left : accepted_at new.course device ≡ evicted_at new.course device + emitted_at new.course device
  pub elsewhere : (d : ℕ) → (device == d) ≡ false → events_of new.course d ≡ events_of old.course d
  pub outlets : new.outlets ≡ old.outlets

-- The first `count` devices were drained, one after the other: no packet is left for them.
pub record HasClosed (count : ℕ) (old new : LiveState) : Type 0 where
  pub closed : List Event
  pub goes_on : new.course ≡ after old.course closed
  pub closes : CloseFirst old.course.setup 0 count old.course.events closed
  pub others : (d : ℕ) → count ≤ d → events_of new.course d ≡ events_of old.course d
  pub none_left : (d : ℕ) → d < count → accepted_at new.course d ≡ evicted_at new.course d + emitted_at new.course d
  pub items : (seen new).items ≡ (seen old).items
