-- What the row and the cursor of a DRRSched tell of the visits before.
use Rattle.std.specs.Prelude.{◌≡◌, ℕ, ◌+◌, ◌*◌, ◌==◌, List, length, Some, slice_get, if◌then◌else◌}
use Rattle.clk_sched.specs.declared.session.drr.Served.{Served}
use Rattle.clk_sched.specs.declared.session.drr.Deficits.{Deficits}
use Rattle.clk_sched.specs.declared.visit.Visit.{Visit}
use Rattle.clk_sched.specs.Heads.{head_at}
use Rattle.clk_sched.specs.Laws.Deficit.{next_input, arrives, arrivals, passed_bytes, quantum_at}

-- What a DRRSched holds of an input after these visits, the latest first, if `ahead` arrivals at it are counted before their visit. The
-- deficit is what the arrivals gave and the packets didn't use.
pub record HoldsInput (quanta : List ℕ) (before : List Visit) (ahead i : ℕ) (s : Served) : Type 0 where
  pub quantum_is : s.quantum ≡ quantum_at quanta i
  pub head_is : s.head ≡ head_at i before
  pub deficit_is : s.deficit + passed_bytes i before ≡ quantum_at quanta i * (ahead + arrivals i before)

-- the arrivals counted ahead of the next visit: one at the cursor, if that visit is an arrival
abbrev pub ahead_at : ℕ → List Visit → ℕ → ℕ
ahead_at inputs before i = if i == next_input inputs before then arrives before else 0

-- What a DRRSched with these quanta over so many inputs holds after these visits, the latest first.
pub record HoldsDeficits (quanta : List ℕ) (inputs : ℕ) (before : List Visit) (d : Deficits) : Type 0 where
  pub length_is : length d.row.items ≡ inputs
  pub cursor_is : d.cursor ≡ next_input inputs before
  pub each : (i : ℕ) (s : Served) → slice_get d.row.items i ≡ Some s → HoldsInput quanta before (ahead_at inputs before i) i s
