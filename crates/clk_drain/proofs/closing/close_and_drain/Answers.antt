use Rattle.std.proofs.Common.{rules}
use Rattle.std.proofs.lemmas.Bool.{or_right}
use Rattle.clk_drain.proofs.closing.close_and_drain.Goals as goal

pub returns-clause-drained : goal.returns-clause-drained
returns-clause-drained g c visits gone = search (rules, or_right)
