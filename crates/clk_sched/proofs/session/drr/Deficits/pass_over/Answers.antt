use Rattle.std.proofs.Common.{rules}
use Rattle.clk_sched.proofs.Classes.Deficits.{row-read, settled-within}
use Rattle.clk_sched.proofs.session.drr.Deficits.pass_over.Goals as goal

pub returns-clause-row : goal.returns-clause-row
returns-clause-row c s e = search (rules, row-read, settled-within)
