use Rattle.clk_syntax.proofs.Parsing.ParseLemmas.{ended-none}
use Rattle.clk_syntax.proofs.texts.parser.statement.Goals as goal

pub returns-in-Some-clause-read : goal.returns-in-Some-clause-read
returns-in-Some-clause-read c = ended-none c.in-Some.ensures
