use Rattle.std.proofs.Common.{rules}
use Rattle.clk_drain.proofs.Leaves.PulledLines.{lines-pulled, lines-stay}
use Rattle.clk_drain.proofs.lines.Lines.pull.Goals as goal

pub returns-clause-lines : goal.returns-clause-lines
returns-clause-lines g c = search (rules, lines-pulled)

pub returns-clause-still : goal.returns-clause-still
returns-clause-still g c = search (rules, lines-stay)
