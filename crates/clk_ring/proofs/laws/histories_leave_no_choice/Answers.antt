use Rattle.clk_ring.proofs.CallsOfQueues.{leaves-no_choice}
use Rattle.clk_ring.proofs.laws.histories_leave_no_choice.Goals as goal

pub returns : goal.returns
returns c = leaves-no_choice
