use Rattle.clk_syntax.proofs.Meaning.Rests.{right-are-texts}
use Rattle.clk_syntax.proofs.laws.right_tokens_are_texts.Goals as goal

pub returns : goal.returns
returns c = right-are-texts
