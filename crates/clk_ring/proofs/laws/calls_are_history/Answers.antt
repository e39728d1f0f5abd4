use Rattle.clk_ring.proofs.CallsOfQueues.{calls-are_history}
use Rattle.clk_ring.proofs.laws.calls_are_history.Goals as goal

pub returns : goal.returns
returns c = calls-are_history
