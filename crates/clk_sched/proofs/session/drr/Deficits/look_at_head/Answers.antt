use Rattle.std.proofs.Common.{rules}
use Rattle.clk_sched.proofs.Turns.LooksDrr.{looks-at-held}
use Rattle.clk_sched.proofs.session.drr.Deficits.look_at_head.Goals as goal

pub returns : goal.returns
returns g c = search (rules, looks-at-held)
