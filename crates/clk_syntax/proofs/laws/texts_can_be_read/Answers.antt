use Rattle.clk_syntax.proofs.Meaning.ReadLemmas.{can-be-read}
use Rattle.clk_syntax.proofs.laws.texts_can_be_read.Goals as goal

pub returns : goal.returns
returns c = can-be-read
