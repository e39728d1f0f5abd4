use Rattle.std.proofs.Common.{rules}
use Rattle.clk_sched.proofs.Classes.RankMerge.{put-fronted}
use Rattle.clk_sched.proofs.session.stride.put_in_front.Goals as goal

pub returns : goal.returns
returns c = search (rules, put-fronted)
