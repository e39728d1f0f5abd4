-- How the parts of opened devices go to the threads of a run and are joined again. Seats stay by device and queue.
use Rattle.std.specs.Prelude.{◌≡◌, ◌⊎◌, ℕ, ◌*◌, ◌+◌, ◌<◌, ◌≤◌, Bool, true, List, [], ◌∷◌, length, map, get_or, ⊤, Vec}
use Rattle.std.specs.declared.alloc.Global.{Global}
use Rattle.std.specs.List.{flat_map, AllByRecursion, AllZip}
use Rattle.clk_packet.specs.declared.fault.Fault.{Fault}
use Rattle.clk_packet.specs.declared.fault.Fault.TheVariants.{Memory}
use Rattle.clk_packet.specs.Trace.{sent_by}
use Rattle.clk_packet.specs.Lists.{are_distinct}
use Rattle.clk_ruled.specs.Queue.{SeatLists, TapLists, ClosedLists, IsTapOf}
use Rattle.clk_ruled.specs.Settle.{AreOpenedTogether}
use Rattle.clk_sched.specs.declared.session.keeps.Keeps.{Keeps}
use Rattle.clk_sched.specs.Keeps.{keeps_emitted, keeps_visits}
use Rattle.clk_sched.specs.declared.limits.TheConstants.{MAX_LEFT}
use Rattle.clk_sched.specs.Log.{pulls, moment_of}
use Rattle.clk_sched.specs.Session.{counted_moment}
use Rattle.clk_sched.specs.Packed.{logged}
use Rattle.clk_sched.specs.declared.session.packed.PackedLog.{PackedLog}
use Rattle.clk_drain.specs.declared.outcome.Outcome.{Outcome}
use Rattle.clk_drain.specs.declared.running.opening.LeafQueue.{LeafQueue}
use Rattle.clk_drain.specs.Line.{LineLists, seats_in, senders_at, AreLinesOf, HaveOwnSenders}
use Rattle.clk_drain.specs.Outcome.{Device, IsSettledOutcome}
use Rattle.clk_drain.specs.Closing.{accepted_over, HasSent, queue_of_line, seated}
use Rattle.clk_drain.specs.Lost.{SeatedQueue, NamesFirstLost}
use Rattle.clk_drain.specs.Moments.{HasMoments}
use Rattle.clk_drain.specs.inside.Threads.{Terms, IsUnused, HaveSentAll, EndLists, Feed, IsUnpulled, IsPulled, steps}

-- the lines of these queues while their seats are handed out
abbrev pub lines_from : List LeafQueue → List TapLists → List LineLists
lines_from [] taps = []
lines_from (q ∷ queues) [] = []
lines_from (q ∷ queues) (t ∷ taps) = record { leaf = q.leaf; tap = t; closed = [] } ∷ lines_from queues taps

-- Each tap belongs to the queue in its place.
abbrev pub AreTapsOf : List LeafQueue → List TapLists → Type 0
AreTapsOf [] [] = ⊤
AreTapsOf (q ∷ queues) (t ∷ taps) = IsTapOf q.queue t × AreTapsOf queues taps
AreTapsOf queues taps = ⊥

-- a device's session with its lines, while the seats are handed out
abbrev pub feed_from : List LeafQueue → EndLists → Feed
feed_from queues e = record { session = e.session; keeps = e.keeps; lines = lines_from queues e.taps }

-- a session, with the taps of its lines
abbrev pub pulled_of : Feed → EndLists
pulled_of f = record { session = f.session; keeps = f.keeps; taps = map (λ (l : LineLists). l.tap) f.lines }

-- A device's session is to be pulled over these queues for the first time.
pub record IsUnpulledOver (queues : Vec LeafQueue Global) (e : EndLists) : Type 0 where
  pub unpulled : IsUnpulled (feed_from queues.items e)
  pub taps : AreTapsOf queues.items e.taps

-- Each of these fits the thing in its place. There may be further things.
abbrev pub FitPlaces : {X Y : Type 0} → (X → Y → Type 0) → List Y → List X → Type 0
FitPlaces Fits [] xs = ⊤
FitPlaces Fits (y ∷ ys) [] = ⊥
FitPlaces Fits (y ∷ ys) (x ∷ xs) = Fits x y × FitPlaces Fits ys xs

-- A device's session was pulled over its queues, once each step, and these are its session and its taps then.
abbrev pub IsPulledOver : Terms → Vec LeafQueue Global → EndLists → EndLists → Type 0
IsPulledOver terms queues e pulled = (f : Feed) × IsPulled terms (feed_from queues.items e) f × (pulled ≡ pulled_of f)

-- So for each device, in order. There may be further devices.
abbrev pub HavePulled : Terms → List EndLists → List EndLists → List (Vec LeafQueue Global) → Type 0
HavePulled terms [] [] queues = ⊤
HavePulled terms (e ∷ ends) (p ∷ pulled) (q ∷ queues) = IsPulledOver terms q e p × HavePulled terms ends pulled queues
HavePulled terms ends pulled queues = ⊥

-- the seats of a queue are before their first offer
abbrev pub AreUnused : Terms → LeafQueue → Vec SeatLists Global → Type 0
AreUnused terms at seats = AllByRecursion (IsUnused terms at.queue) seats.items

-- the seats of each queue of a device are before their first offer
abbrev pub AreAllUnused : Terms → Vec LeafQueue Global → Vec (Vec SeatLists Global) Global → Type 0
AreAllUnused terms queues seats = FitPlaces (AreUnused terms) seats.items queues.items

-- The seats for which no producer was started yet: those of some devices, of some queues of the next device, and some of its next queue.
-- `all` are the queues of all devices.
pub record AreLeft (terms : Terms) (all : List (Vec LeafQueue Global)) (devices : Vec (Vec (Vec SeatLists Global) Global) Global) (queues : Vec (Vec SeatLists Global) Global) (seats : Vec SeatLists Global) : Type 0 where
  pub of_devices : FitPlaces (AreAllUnused terms) devices.items all
  pub device : 0 < length queues.items + length seats.items → length devices.items < length all
  pub of_queues : (d : Vec LeafQueue Global) → FitPlaces (AreUnused terms) queues.items (get_or all (length devices.items) d).items
  pub queue : (d : Vec LeafQueue Global) → 0 < length seats.items → length queues.items < length (get_or all (length devices.items) d).items
  pub of_queue : (d : Vec LeafQueue Global) (at : LeafQueue) → AreUnused terms (get_or (get_or all (length devices.items) d).items (length queues.items) at) seats

-- Each sender of a device offered all that it sends, and then closed its seat, queue by queue.
abbrev pub HasDeviceSent : Terms → Vec (Vec SeatLists Global) Global → Vec (Vec ClosedLists Global) Global → Type 0
HasDeviceSent terms seats closed = AllZip (HaveSentAll terms) seats.items closed.items

-- the lines of these queues, each with its closed seats
abbrev pub joined_lines : List LeafQueue → List TapLists → List (Vec ClosedLists Global) → List LineLists
joined_lines (q ∷ queues) (t ∷ taps) (c ∷ closed) = record { leaf = q.leaf; tap = t; closed = c.items } ∷ joined_lines queues taps closed
joined_lines queues taps closed = []

-- Each queue was opened together with its tap and its closed seats.
abbrev pub AreJoinable : List LeafQueue → List TapLists → List (Vec ClosedLists Global) → Type 0
AreJoinable [] [] [] = ⊤
AreJoinable (q ∷ queues) (t ∷ taps) (c ∷ closed) = AreOpenedTogether q.queue t c.items × AreJoinable queues taps closed
AreJoinable queues taps closed = ⊥

-- the sessions of all devices with their lines, each with its closed seats
abbrev pub joined_feeds : List (Vec LeafQueue Global) → List EndLists → List (Vec (Vec ClosedLists Global) Global) → List Feed
joined_feeds (q ∷ queues) (e ∷ ends) (c ∷ closed) = record { session = e.session; keeps = e.keeps; lines = joined_lines q.items e.taps c.items } ∷ joined_feeds queues ends closed
joined_feeds queues ends closed = []

-- For each device, each queue was opened together with its tap and its closed seats.
abbrev pub AreAllJoinable : List (Vec LeafQueue Global) → List EndLists → List (Vec (Vec ClosedLists Global) Global) → Type 0
AreAllJoinable [] [] [] = ⊤
AreAllJoinable (q ∷ queues) (e ∷ ends) (c ∷ closed) = AreJoinable q.items e.taps c.items × AreAllJoinable queues ends closed
AreAllJoinable queues ends closed = ⊥

-- A session with its lines, after a run's pulls. All of its seats offered all that is sent.
pub record IsReadyToClose (terms : Terms) (f : Feed) : Type 0 where
  pub own : AreLinesOf f.session f.lines
  pub apart : HaveOwnSenders f.lines
  pub few : accepted_over f.lines ≤ MAX_LEFT
  pub sent : AllByRecursion (HasSent (sent_by terms.traces)) (seats_in f.lines)
  pub made : ℕ
  pub within : made ≤ terms.limit
  pub moments : map moment_of (pulls f.session.log) ≡ steps terms.step made
  pub counted : counted_moment f.session ≡ made * terms.step

-- no sender has seats at two devices
abbrev pub AreApartDevices : List Feed → Type 0
AreApartDevices feeds = are_distinct (flat_map (λ (f : Feed). senders_at (seats_in f.lines)) feeds) ≡ true

-- A device was drained, and this has its tree, its queues, and a log with the moments of a run.
pub record IsClosedDevice (terms : Terms) (f : Feed) (d : Device) : Type 0 where
  pub tree : d.tree ≡ f.session.tree
  pub queues : d.queues ≡ map queue_of_line f.lines
  pub moments : HasMoments terms.step terms.limit d.tree d.log

-- Each of these devices was drained (`IsClosedDevice`), in order.
abbrev pub AreClosedDevices : Terms → List Feed → List Device → Type 0
AreClosedDevices terms [] [] = ⊤
AreClosedDevices terms (f ∷ feeds) (d ∷ devices) = IsClosedDevice terms f d × AreClosedDevices terms feeds devices
AreClosedDevices terms feeds devices = ⊥

-- For each session that keeps such things, this is what its device has of them: its log, or its emitted packets.
abbrev pub AreKept : {X : Type 0} → (Keeps → Bool) → (Device → X) → List Feed → List X → List Device → Type 0
AreKept kept of [] [] [] = ⊤
AreKept kept of (f ∷ feeds) (x ∷ xs) (d ∷ devices) = (kept f.keeps ≡ true → x ≡ of d) × AreKept kept of feeds xs devices
AreKept kept of feeds xs devices = ⊥

-- All devices were drained, and all that was sent is settled.
pub record AreSettledTogether (terms : Terms) (feeds : List Feed) (outcome : Outcome PackedLog) : Type 0 where
  pub devices : List Device
  pub closed : AreClosedDevices terms feeds devices
  pub logs : AreKept keeps_visits (λ (d : Device). d.log) feeds (map logged outcome.logs.items) devices
  pub emitted : AreKept keeps_emitted (λ (d : Device). d.emitted) feeds (map (λ packets. packets.items) outcome.emitted.items) devices
  pub settled : IsSettledOutcome (sent_by terms.traces) devices outcome.tallies.items

-- the queues of all devices, in order, with their seats
abbrev pub seated_in : List Feed → List SeatedQueue
seated_in feeds = flat_map (λ (f : Feed). map seated f.lines) feeds

-- Why some device isn't drained: an allocation failed, or a queue lost packets below its capacity.
abbrev pub IsFaultOfClosing : List Feed → Fault → Type 0
IsFaultOfClosing feeds fault = (fault ≡ Memory) ⊎ NamesFirstLost (seated_in feeds) fault
