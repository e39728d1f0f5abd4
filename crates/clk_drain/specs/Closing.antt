-- What draining a session over its lines returns.
use Rattle.std.specs.Prelude.{◌≡◌, ◌⊎◌, ℕ, ◌+◌, ◌-◌, List, [], ◌∷◌, length, map, max, Vec}
use Rattle.std.specs.List.{flat_map, AllByRecursion}
use Rattle.std.specs.List.Sorted.{IsPermutation, IsNonDecreasingBy}
use Rattle.std.specs.declared.alloc.Global.{Global}
use Rattle.clk_packet.specs.declared.packet.Packet.{Packet}
use Rattle.clk_packet.specs.declared.tally.Tally.{Tally}
use Rattle.clk_packet.specs.declared.fault.Fault.{Fault}
use Rattle.clk_packet.specs.declared.fault.Fault.TheVariants.{Memory}
use Rattle.clk_ruled.specs.Queue.{SeatLists, AreNumbered, IsDealt}
use Rattle.clk_ruled.specs.Settle.{accepted_count, evicted_count, all_evicted, tally_of}
use Rattle.clk_sched.specs.declared.visit.Visit.{Visit}
use Rattle.clk_sched.specs.Session.{Progress, counted_moment}
use Rattle.clk_sched.specs.Drain.{GivesAll}
use Rattle.clk_sched.specs.Results.{emitted as emitted_in}
use Rattle.clk_drain.specs.declared.drained.Drained.{Drained}
use Rattle.clk_drain.specs.Line.{LineLists, seats_of, seats_in, senders_at}
use Rattle.clk_drain.specs.Outcome.{Device, IsSettledOutcome}
use Rattle.clk_tree.specs.PlanParts.{SharedQueue}
use Rattle.clk_drain.specs.Lost.{SeatedQueue, NamesFirstLost}

-- how many packets the queues of these lines accepted in all
abbrev pub accepted_over : List LineLists → ℕ
accepted_over [] = 0
accepted_over (l ∷ lines) = accepted_count (seats_of l) + accepted_over lines

-- how many packets the queues of these lines evicted in all
abbrev pub evicted_over : List LineLists → ℕ
evicted_over [] = 0
evicted_over (l ∷ lines) = evicted_count (seats_of l) + evicted_over lines

-- how many packets are left: those accepted, less those evicted, less those emitted
abbrev pub left_over : Progress → List LineLists → ℕ
left_over session lines = accepted_over lines - (evicted_over lines + length (emitted_in session.log))

-- the queue of a line
abbrev pub queue_of_line : LineLists → SharedQueue
queue_of_line l = record { leaf = l.leaf; kind = l.tap.setup.kind; capacity = l.tap.setup.capacity; senders = senders_at (seats_of l) }

-- the device of a session over lines, with this log of its tree and these emitted packets
abbrev pub device_of : Progress → List LineLists → List Visit → List Packet → Device
device_of session lines log emitted = record { tree = session.tree; queues = map queue_of_line lines; log = log; emitted = emitted }

-- These are all packets that a seat offered, in order: they are of its sender, numbered from 0 on, and each was accepted or refused.
abbrev pub AreOffered : List Packet → SeatLists → Type 0
AreOffered packets l = (length packets ≡ l.next) × AreNumbered l.sender 0 packets × IsDealt packets l.accepted l.refused

-- the sender of a seat sent exactly what the seat offered
abbrev pub HasSent : (ℕ → List Packet) → SeatLists → Type 0
HasSent sent l = AreOffered (sent l.sender) l

-- the tallies of a line's senders, by its seats
abbrev pub tallies_of : LineLists → List Tally
tallies_of l = map (tally_of (all_evicted (seats_of l))) (seats_of l)

-- the tallies of the senders of all lines
abbrev pub tallies_in : List LineLists → List Tally
tallies_in lines = flat_map tallies_of lines

-- The second list has the tallies of the first, sorted by sender.
pub record AreInOrder (tallies sorted : List Tally) : Type 0 where
  pub same : IsPermutation tallies sorted
  pub order : IsNonDecreasingBy (λ (t : Tally). t.sender) sorted

-- A session was drained over its lines, from a moment on. This is its log then, these are all packets that it ever emitted, and all is
-- settled with these tallies.
pub record IsDrainedTo (session : Progress) (lines : List LineLists) (moment : ℕ) (log : List Visit) (emitted : List Packet) (tallies : List Tally) : Type 0 where
  -- there are packets that the seats offered
  pub sent : ℕ → List Packet
  pub offered : AllByRecursion (HasSent sent) (seats_in lines)
  -- whatever packets the seats offered, this is their settled outcome
  pub outcome : (packets : ℕ → List Packet) → AllByRecursion (HasSent packets) (seats_in lines)
      → IsSettledOutcome packets (device_of session lines log emitted ∷ []) tallies
  -- the tallies are those of the seats, sorted by sender
  pub told : AreInOrder (tallies_in lines) tallies
  -- the log goes on from the session's log by the pulls of one drain of all that was left
  pub made : ℕ
  pub goes_on : GivesAll session (record { tree = session.tree; log = log }) (max (counted_moment session) moment) made (left_over session lines)

-- What a drain returns meets `IsDrainedTo`: its log, its emitted packets and its tallies.
abbrev pub IsDrainedOver : Progress → List LineLists → ℕ → Drained (Vec Visit Global) → Type 0
IsDrainedOver session lines moment drained = IsDrainedTo session lines moment drained.log.items drained.emitted.items drained.tallies.items

-- the queue of a line, with its seats
abbrev pub seated : LineLists → SeatedQueue
seated l = record { queue = queue_of_line l; seats = seats_of l }

-- Why a session isn't drained over its lines: an allocation failed, or the queue of a line lost packets below its capacity. The caller
-- knows the seats, so fault 21 singles out one queue.
abbrev pub IsFaultOfDrain : List LineLists → Fault → Type 0
IsFaultOfDrain lines fault = (fault ≡ Memory) ⊎ NamesFirstLost (map seated lines) fault
