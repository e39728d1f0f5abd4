use Rattle.std.proofs.Common.{rules}
use Rattle.clk_sched.proofs.Classes.RankLemmas.{after-place, put-first}
use Rattle.clk_sched.proofs.session.stride.put.Goals as goal

pub returns-then-is_first : goal.returns-then-is_first
returns-then-is_first c = search (rules, after-place, put-first)
