use Rattle.std.proofs.Common.{take, drop}
use Rattle.clk_sched.specs.inside.Ranks.{put_all}
use Rattle.clk_sched.proofs.Classes.RankMerge.{AreMerging}
use Rattle.clk_sched.proofs.session.stride.merge.Given as goal

abbrev pub invariant-loop-next : goal.invariant-loop-next
invariant-loop-next l = AreMerging (put_all (take l.place l.fn.row) (drop l.place l.fn.row)) l.row l.next
