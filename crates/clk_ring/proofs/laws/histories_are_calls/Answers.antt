use Rattle.clk_ring.proofs.CallsOfQueues.{histories-are_calls}
use Rattle.clk_ring.proofs.laws.histories_are_calls.Goals as goal

pub returns : goal.returns
returns c = histories-are_calls
