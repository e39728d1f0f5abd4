use Rattle.clk_script.proofs.Record.Growth.{limits-more, script-more}
use Rattle.clk_script.proofs.laws.records_grow.Goals as goal

pub returns-clause-fits : goal.returns-clause-fits
returns-clause-fits c = script-more

pub returns-clause-limits : goal.returns-clause-limits
returns-clause-limits c = limits-more
