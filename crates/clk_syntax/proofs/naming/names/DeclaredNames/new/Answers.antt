use Rattle.std.proofs.Common.{rules}
use Rattle.clk_syntax.proofs.naming.names.DeclaredNames.new.Goals as goal

pub returns-clause-slots : goal.returns-clause-slots
returns-clause-slots c = λ name free. let empty = c.new.ensures.empty in search (rules, empty)
