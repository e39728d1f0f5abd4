use Rattle.std.proofs.Common.{◌≡◌, ◌-◌, ◌<◌, ◌++◌, drop, length, map, take}
use Rattle.clk_sched.specs.inside.Ranks.{less}
use Rattle.clk_sched.proofs.Classes.RankLemmas.{StandBefore}
use Rattle.clk_sched.proofs.session.stride.win_first.Given as goal

abbrev pub invariant-loop-place : goal.invariant-loop-place
invariant-loop-place l = record {
  within : l.place < length l.fn.row;
  moved : l.row ≡ map (less l.least) (take l.place (drop 1 l.fn.row)) ++ drop l.place l.fn.row;
  before : StandBefore l.winner (drop 1 l.fn.row) l.place;
}

abbrev pub decreases-loop-place : goal.decreases-loop-place
decreases-loop-place l = length l.fn.row - l.place
