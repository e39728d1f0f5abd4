use Rattle.std.proofs.lemmas.Result.{IfOk-weaker}
use Rattle.clk_words.proofs.WordLemmas.{word-more}
use Rattle.clk_words.proofs.words.lint.Goals as goal

pub returns : goal.returns
returns c =
    let tree = word-more _ _ _ _ _ c.in_ok-arg.ensures c.in_ok-titled.ensures c.file.ensures in
    IfOk-weaker c.arg-2.result _ _ (λ _ adds. word-more _ _ _ _ _ adds tree c.optional_file.ensures) c.arg-2.ensures
