use Rattle.std.proofs.Common.{rules}
use Rattle.clk_drain.proofs.running.run.Goals as goal

pub returns-clause-outcome : goal.returns-clause-outcome
returns-clause-outcome g c = search rules
