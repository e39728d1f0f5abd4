-- The shares that a DRRSched and a StrideSched give, and the rate that a Shaper keeps to, as laws over whole histories of a node, and over
-- runs of a tree.
use Rattle.std.specs.Prelude.{◌≡◌, ℕ, ◌+◌, ◌-◌, ◌*◌, ◌<◌, ◌≤◌, ◌==◌, ◌&&◌, List, [], ◌∷◌, ◌++◌, length, reverse, max, ⊤, IsSome, if◌then◌else◌, false}
use Rattle.std.specs.Option.{option_map_or}
use Rattle.std.specs.List.{AllByRecursion}
use Rattle.clk_packet.specs.declared.packet.Packet.{Packet}
use Rattle.clk_packet.specs.declared.limits.TheConstants.{MAX_LENGTH}
use Rattle.clk_sched.specs.declared.visit.Visit.{Visit}
use Rattle.clk_packet.specs.Scheduler.{Scheduler, drr, stride, shaper}
use Rattle.clk_sched.specs.Tree.{Tree, PlacedScheduler, schedulers_of, width}
use Rattle.clk_sched.specs.Log.{pulls}
use Rattle.clk_sched.specs.Run.{IsRun, own_turns}
use Rattle.clk_sched.specs.Turns.{Turn, giver, all_visits}
use Rattle.clk_sched.specs.DeficitRounds.{GoesByRounds}
use Rattle.clk_sched.specs.Laws.Deficit.{IsDeficit, arrives, quantum_at}
use Rattle.clk_sched.specs.Laws.Shaper.{packets_passed}
use Rattle.clk_sched.specs.Laws.Stride.{stride_of, stride_at, pass_in, passes_of}

-- how many arrivals at an input a range of visits has; the visits before the range are given with the latest first
abbrev pub arrivals_in : ℕ → List Visit → List Visit → ℕ
arrivals_in input earlier [] = 0
arrivals_in input earlier (v ∷ range) = (if v.input == input then arrives earlier else 0) + arrivals_in input (v ∷ earlier) range

-- the bytes passed from an input in a range of visits
abbrev pub bytes_in : ℕ → List Visit → ℕ
bytes_in input [] = 0
bytes_in input (v ∷ range) = (if (v.input == input) && v.passed then option_map_or (λ (p : Packet). p.length) v.got 0 else 0) + bytes_in input range

-- each visit of the range to this input got a packet
abbrev pub AlwaysGets : ℕ → List Visit → Type 0
AlwaysGets input range = AllByRecursion (λ (v : Visit). v.input ≡ input → IsSome v.got) range

-- Two numbers differ by at most a bound.
abbrev pub Near : ℕ → ℕ → ℕ → Type 0
Near bound m n = (m ≤ n + bound) × (n ≤ m + bound)

-- A DRRSched shares by bytes: in any unbroken range of its visits, the arrivals of two inputs differ by at most 1. No deficit is below 0,
-- or above the input's quantum plus a byte less than the greatest length. An input whose visits in the range all got a packet passed its
-- quantum in bytes for each arrival, within that bound.
pub record SharesByDeficit (quanta : List ℕ) (inputs : ℕ) (turns : List Turn) : Type 0 where
  pub arrivals_near : (before range after : List Visit) → all_visits turns ≡ before ++ (range ++ after) → (i j : ℕ) → i < inputs → j < inputs
      → Near 1 (arrivals_in i (reverse before) range) (arrivals_in j (reverse before) range)
  pub deficit_bound : (before after : List Visit) (v : Visit) → all_visits turns ≡ before ++ v ∷ after
      → (deficit : ℕ) × IsDeficit quanta (reverse before) v.input deficit × (deficit ≤ quantum_at quanta v.input + (MAX_LENGTH - 1))
  pub bytes_near : (before range after : List Visit) → all_visits turns ≡ before ++ (range ++ after) → (i : ℕ) → i < inputs → AlwaysGets i range
      → Near (quantum_at quanta i + (MAX_LENGTH - 1)) (bytes_in i range) (quantum_at quanta i * arrivals_in i (reverse before) range)

-- the largest stride of some inputs
abbrev pub largest_stride : List ℕ → ℕ
largest_stride [] = 0
largest_stride (t ∷ tickets) = max (stride_of t) (largest_stride tickets)

-- how many packets an input gave in a range of pulls
abbrev pub packets_given : ℕ → List Turn → ℕ
packets_given input [] = 0
packets_given input (t ∷ range) = (if option_map_or (λ other. other == input) (giver t.visits) false then 1 else 0) + packets_given input range

-- the pass of an input after these turns, the latest first
abbrev pub pass_at : List ℕ → List Turn → ℕ → ℕ
pass_at tickets earlier input = pass_in (passes_of tickets earlier) input

-- A StrideSched shares by packets: two passes never differ by more than the largest stride. In any unbroken range of pulls, take two inputs
-- whose visits all got a packet. The packets that they gave, each times its stride, differ by at most twice the largest stride.
pub record SharesByStride (tickets : List ℕ) (turns : List Turn) : Type 0 where
  pub passes_near : (before after : List Turn) → turns ≡ before ++ after → (i j : ℕ) → i < length tickets → j < length tickets
      → Near (largest_stride tickets) (pass_at tickets (reverse before) i) (pass_at tickets (reverse before) j)
  pub served_near : (before range after : List Turn) → turns ≡ before ++ (range ++ after) → (i j : ℕ) → i < length tickets → j < length tickets
      → AlwaysGets i (all_visits range) → AlwaysGets j (all_visits range)
      → Near (2 * largest_stride tickets) (packets_given i range * stride_at tickets i) (packets_given j range * stride_at tickets j)

-- A Shaper keeps to its rate: in any unbroken range of pulls at moments from `from` to `until`, as many packets pass as its burst at most,
-- and its rate for each tick in between.
pub record KeepsToRate (rate burst : ℕ) (turns : List Turn) : Type 0 where
  pub passed_few : (before range after : List Turn) → turns ≡ before ++ (range ++ after) → (from until : ℕ) → AllByRecursion (λ (t : Turn). (from ≤ t.moment) × (t.moment ≤ until)) range
      → 1 ≤ burst → packets_passed range ≤ burst + rate * (until - from)

-- what a scheduler of this class, over so many inputs, shares out in its pulls
abbrev pub Shares : Scheduler → ℕ → List Turn → Type 0
Shares (drr quanta) inputs turns = GoesByRounds quanta inputs turns × SharesByDeficit quanta inputs turns
Shares (stride tickets) inputs turns = SharesByStride tickets turns
Shares (shaper rate burst) inputs turns = KeepsToRate rate burst turns
Shares class inputs turns = ⊤

-- In every run of a tree each DRRSched and each StrideSched gives its shares, and each Shaper keeps to its rate.
abbrev pub SharesOut : Tree → Type 0
SharesOut tree =
    (log : List Visit) → IsRun tree log → AllByRecursion (λ (n : PlacedScheduler). Shares n.class (width n.inputs) (own_turns (pulls log) n)) (schedulers_of tree)
