use Rattle.clk_syntax.proofs.Meaning.Mending.{cannot-be-mended}
use Rattle.clk_syntax.proofs.laws.wrong_tokens_cannot_be_mended.Goals as goal

pub returns : goal.returns
returns c = cannot-be-mended
