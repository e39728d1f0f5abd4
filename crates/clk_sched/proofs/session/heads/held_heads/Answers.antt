use Rattle.std.proofs.Common.{arith}
use Rattle.std.proofs.lemmas.Grind.{common_steps}
use Rattle.clk_sched.proofs.Sessions.Held.{heads-after_run}
use Rattle.clk_sched.proofs.session.heads.held_heads.Goals as goal

pub returns-clause-packets : goal.returns-clause-packets
returns-clause-packets c tree h = let all = heads-after_run tree c.args.nodes.now h in grind (arith, common_steps, all)
