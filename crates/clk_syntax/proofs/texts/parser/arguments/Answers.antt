use Rattle.clk_syntax.proofs.Parsing.ParseLemmas.{arguments-read}
use Rattle.clk_syntax.proofs.texts.parser.arguments.Goals as goal

pub returns-clause-read : goal.returns-clause-read
returns-clause-read c = arguments-read c.in-Some.ensures c.in_ok-words.ensures.sound c.in_ok-words.ensures.read
