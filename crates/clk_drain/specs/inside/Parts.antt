-- What the parts of a drain say to one another.
use Rattle.std.specs.Prelude.{◌≡◌, ℕ, ◌+◌, ◌-◌, ◌==◌, List, [], ◌∷◌, length, map, max, if◌then◌else◌}
use Rattle.std.specs.List.{AllByRecursion}
use Rattle.clk_packet.specs.declared.packet.Packet.{Packet}
use Rattle.clk_packet.specs.declared.tally.Tally.{Tally}
use Rattle.clk_ruled.specs.Settle.{AreTogether, IsSettled, accepted_count, evicted_count}
use Rattle.clk_sched.specs.Session.{Progress, counted_moment}
use Rattle.clk_sched.specs.Drain.{GivesAll}
use Rattle.clk_drain.specs.Line.{LineLists, seats_of, lasting_of, AreStill, AreLinesOf}
use Rattle.clk_drain.specs.Parts.{HasGathered, IsWithin}

-- what a tap took, with its leaf
abbrev pub taken_at : LineLists → ℕ × List Packet
taken_at l = (l.leaf, l.tap.taken)

-- The seats of a line are gathered, and its tap took no more packets than they accepted and didn't lose by eviction.
pub record IsGathered (l : LineLists) : Type 0 where
  pub all : HasGathered l
  pub within : IsWithin l

-- The seats of a line were gathered, and nothing else changed.
pub record IsGatheredFrom (old new : LineLists) : Type 0 where
  pub still : lasting_of new ≡ lasting_of old
  pub taken : taken_at new ≡ taken_at old
  pub all : IsGathered new

-- The seats of these lines were gathered, and nothing else changed.
pub record AreGatheredFrom (old new : List LineLists) : Type 0 where
  pub still : AreStill old new
  pub taken : map taken_at new ≡ map taken_at old
  pub all : AllByRecursion IsGathered new

-- how many packets the queue of a gathered line holds
abbrev pub held_of : LineLists → ℕ
held_of l = accepted_count (seats_of l) - (evicted_count (seats_of l) + length l.tap.taken)

-- how many packets the queue at a leaf holds, of these gathered lines; 0 if the leaf has no line
abbrev pub held_at : List LineLists → ℕ → ℕ
held_at [] q = 0
held_at (l ∷ lines) q = if l.leaf == q then held_of l else held_at lines q

-- A session was drained over its lines, from a moment on, of the `left` packets that were left.
pub record IsDrainOf (session : Progress) (lines : List LineLists) (moment left : ℕ) (new : Progress) (after : List LineLists) : Type 0 where
  pub still : AreStill lines after
  pub own : AreLinesOf new after
  pub made : ℕ
  pub gives : GivesAll session new (max (counted_moment session) moment) made left

-- The queue of a line is settled.
pub record IsSettledLine (l : LineLists) : Type 0 where
  pub together : AreTogether l.tap l.closed
  pub tallies : List Tally
  pub pulled : List Packet
  pub is : IsSettled l.tap l.closed pulled tallies
