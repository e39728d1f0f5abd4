use Rattle.std.proofs.Common.{rules}
use Rattle.clk_sched.proofs.Classes.RankLemmas.{last-zero}
use Rattle.clk_sched.proofs.session.stride.are_at_zero.Goals as goal

pub returns-in-len1-up : goal.returns-in-len1-up
returns-in-len1-up c h = search (rules, last-zero)
