use Rattle.std.proofs.Common.{rules}
use Rattle.clk_drain.proofs.Leaves.GatherSteps.{gathering-more, gathered-all}
use Rattle.clk_drain.proofs.line.gather_seats.Goals as goal

pub loop-seat-preserved : goal.loop-seat-preserved
loop-seat-preserved c = search (rules, gathering-more)

pub returns-clause-all : goal.returns-clause-all
returns-clause-all c = search (rules, gathered-all)
