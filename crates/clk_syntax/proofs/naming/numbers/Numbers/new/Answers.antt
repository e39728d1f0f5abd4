use Rattle.clk_syntax.proofs.Elements.MarkLemmas.{unmarked}
use Rattle.clk_syntax.proofs.naming.numbers.Numbers.new.Goals as goal

pub returns-clause-none : goal.returns-clause-none
returns-clause-none c = λ n. unmarked c.in_ok-marks.marks.items 1024 _ _ (c.in_ok-marks.ensures.items_if_clones_equal (λ y same. same))
