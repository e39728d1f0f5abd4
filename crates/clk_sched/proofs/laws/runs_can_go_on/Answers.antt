use Rattle.clk_sched.proofs.Runs.CanGoOn.{can-go_on}
use Rattle.clk_sched.proofs.laws.runs_can_go_on.Goals as goal

pub returns : goal.returns
returns c = can-go_on
