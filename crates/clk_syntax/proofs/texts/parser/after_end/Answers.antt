use Rattle.std.proofs.Common.{rules}
use Rattle.clk_syntax.proofs.Parsing.ParseLemmas.{end-none, end-mark}
use Rattle.clk_syntax.proofs.texts.parser.after_end.Goals as goal

pub returns-then-is_empty-clause-read : goal.returns-then-is_empty-clause-read
returns-then-is_empty-clause-read c = end-none _ (search rules)

pub returns-clause-read : goal.returns-clause-read
returns-clause-read c = end-mark c.in_ok-rest.field-0-0 c.in_ok-rest.ensures.read.0 c.in_ok-rest.ensures.read.1
