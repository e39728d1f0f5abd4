use Rattle.clk_sched.proofs.Closing.Emptied.{bound-is_enough}
use Rattle.clk_sched.proofs.laws.closing_bound_is_enough.Goals as goal

pub returns : goal.returns
returns c = bound-is_enough
