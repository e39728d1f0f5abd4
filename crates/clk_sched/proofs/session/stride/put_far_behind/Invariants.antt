use Rattle.std.proofs.Common.{◌+◌, ◌-◌, ◌++◌, length, take, drop}
use Rattle.clk_sched.specs.inside.Ranks.{put_rank}
use Rattle.clk_sched.proofs.Classes.RankBehind.{IsPutting}
use Rattle.clk_sched.proofs.session.stride.put_far_behind.Given as goal

abbrev pub invariant-loop-place : goal.invariant-loop-place
invariant-loop-place l = IsPutting (take l.from l.fn.row ++ put_rank l.rank (drop (l.from + 1) l.fn.row)) l.row l.place l.rank

abbrev pub decreases-loop-place : goal.decreases-loop-place
decreases-loop-place l = length l.fn.row - l.place
