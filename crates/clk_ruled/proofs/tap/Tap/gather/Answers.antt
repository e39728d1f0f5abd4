use Rattle.std.proofs.Common.{rules}
use Rattle.clk_ruled.proofs.Steps.{gathers, learns}
use Rattle.clk_ruled.proofs.TapSteps.{taken-fewer}
use Rattle.clk_ruled.proofs.tap.Tap.gather.Goals as goal

pub absorb-requires-clause-rule : goal.absorb-requires-clause-rule
absorb-requires-clause-rule c = search (rules, gathers)

pub learn_as-requires-clause-rule : goal.learn_as-requires-clause-rule
learn_as-requires-clause-rule c = learns _ _

pub returns-then-seat-clause-within : goal.returns-then-seat-clause-within
returns-then-seat-clause-within c = search (rules, taken-fewer)

pub returns-clause-within : goal.returns-clause-within
returns-clause-within c = search (rules, taken-fewer)
