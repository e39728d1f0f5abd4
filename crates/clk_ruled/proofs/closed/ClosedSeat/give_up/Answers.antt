use Rattle.clk_ruled.proofs.Steps.{retires}
use Rattle.clk_ruled.proofs.closed.ClosedSeat.give_up.Goals as goal

pub another-retired-requires-clause-rule : goal.another-retired-requires-clause-rule
another-retired-requires-clause-rule c = retires _ _
