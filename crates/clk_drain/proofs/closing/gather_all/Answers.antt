use Rattle.std.proofs.Common.{rules}
use Rattle.clk_drain.proofs.Leaves.LineSteps.{line-gathered, lines-gathered}
use Rattle.clk_drain.proofs.closing.gather_all.Goals as goal

pub loop-line-preserved : goal.loop-line-preserved
loop-line-preserved c = search (rules, line-gathered)

pub returns : goal.returns
returns c = search (rules, lines-gathered)
