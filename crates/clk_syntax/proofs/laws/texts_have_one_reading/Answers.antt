use Rattle.clk_syntax.proofs.Meaning.ReadLemmas.{one-reading}
use Rattle.clk_syntax.proofs.laws.texts_have_one_reading.Goals as goal

pub returns : goal.returns
returns c = one-reading
