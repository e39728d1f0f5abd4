use Rattle.clk_ruled.proofs.Steps.{learns}
use Rattle.clk_ruled.proofs.tap.Tap.fresh.Goals as goal

pub learn_as-requires-clause-rule : goal.learn_as-requires-clause-rule
learn_as-requires-clause-rule c = learns _ _
