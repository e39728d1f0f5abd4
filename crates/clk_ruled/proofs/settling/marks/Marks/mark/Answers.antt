use Rattle.std.proofs.Common.{rules}
use Rattle.clk_ruled.proofs.MarkLemmas.{packet-marked}
use Rattle.clk_ruled.proofs.settling.marks.Marks.mark.Goals as goal

pub returns-clause-marked : goal.returns-clause-marked
returns-clause-marked c = search (rules, packet-marked)
