use Rattle.clk_sched.proofs.Shares.OfTrees.{shares-out}
use Rattle.clk_sched.proofs.laws.runs_share_out.Goals as goal

pub returns : goal.returns
returns c = shares-out
