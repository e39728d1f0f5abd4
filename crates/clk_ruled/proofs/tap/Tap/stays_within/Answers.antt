use Rattle.std.proofs.Common.{rules}
use Rattle.clk_ruled.proofs.Settlement.{accounted, seats-within}
use Rattle.clk_ruled.proofs.tap.Tap.stays_within.Goals as goal

pub returns-clause-accounted : goal.returns-clause-accounted
returns-clause-accounted c = search (rules, accounted)

pub returns-clause-seats_within : goal.returns-clause-seats_within
returns-clause-seats_within c = search (rules, seats-within)
