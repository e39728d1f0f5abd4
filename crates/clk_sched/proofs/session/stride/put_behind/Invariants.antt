use Rattle.std.proofs.Common.{◌≡◌, ◌+◌, ◌-◌, ◌<◌, ◌≤◌, drop, length}
use Rattle.std.proofs.Math.Seq.{paste}
use Rattle.clk_sched.proofs.Classes.RankLemmas.{StandBefore}
use Rattle.clk_sched.proofs.session.stride.put_behind.Given as goal

abbrev pub invariant-loop-place : goal.invariant-loop-place
invariant-loop-place l = record {
  within : (l.from ≤ l.place) × (l.place < length l.fn.row);
  moved : l.row ≡ paste l.fn.row l.from (drop (l.from + 1) l.fn.row) (l.place - l.from);
  before : StandBefore l.rank (drop (l.from + 1) l.fn.row) (l.place - l.from);
}

abbrev pub decreases-loop-place : goal.decreases-loop-place
decreases-loop-place l = length l.fn.row - l.place
