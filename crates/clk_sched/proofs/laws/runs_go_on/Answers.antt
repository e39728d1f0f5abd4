use Rattle.clk_sched.proofs.Runs.GoesOn.{goes-on}
use Rattle.clk_sched.proofs.laws.runs_go_on.Goals as goal

pub returns : goal.returns
returns c = goes-on
