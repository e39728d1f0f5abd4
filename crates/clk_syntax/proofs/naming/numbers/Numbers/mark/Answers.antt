use Rattle.clk_syntax.proofs.Elements.MarkLemmas.{marked}
use Rattle.clk_syntax.proofs.naming.numbers.Numbers.mark.Goals as goal

pub returns-clause-marked : goal.returns-clause-marked
returns-clause-marked c = marked c.args.marks.now c.args.place c.args.bit c.requires.place c.requires.bit
