use Rattle.clk_tree.proofs.Denoted.OneMeaning.{one-meaning}
use Rattle.clk_tree.proofs.laws.texts_have_one_meaning.Goals as goal

pub returns : goal.returns
returns c = one-meaning
