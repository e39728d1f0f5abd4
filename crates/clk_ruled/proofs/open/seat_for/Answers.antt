use Rattle.std.proofs.Common.{rules}
use Rattle.clk_ruled.proofs.Steps.{seats}
use Rattle.clk_ruled.proofs.open.seat_for.Goals as goal

pub another-requires-clause-rule : goal.another-requires-clause-rule
another-requires-clause-rule g c = search (rules, seats)
