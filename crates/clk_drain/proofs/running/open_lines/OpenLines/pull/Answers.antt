use Rattle.std.proofs.Common.{rules}
use Rattle.clk_drain.proofs.Leaves.PulledLines.{lines-pulled, lines-taken}
use Rattle.clk_drain.proofs.running.open_lines.OpenLines.pull.Goals as goal

pub returns-clause-lines : goal.returns-clause-lines
returns-clause-lines g c = search (rules, lines-pulled)

pub returns-clause-taken : goal.returns-clause-taken
returns-clause-taken g c = search (rules, lines-taken)
