use Rattle.clk_router.proofs.PlanLemmas.{AreMade}
use Rattle.clk_router.proofs.router.trees_of.Given as goal

abbrev pub invariant-loop-device : goal.invariant-loop-device
invariant-loop-device l = AreMade l.plan l.device l.trees.items
