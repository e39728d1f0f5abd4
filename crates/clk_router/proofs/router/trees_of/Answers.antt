use Rattle.std.proofs.Common.{rules}
use Rattle.clk_router.proofs.PlanLemmas.{made-more}
use Rattle.clk_router.proofs.router.trees_of.Goals as goal

pub loop-device-preserved : goal.loop-device-preserved
loop-device-preserved c = search (rules, made-more)
