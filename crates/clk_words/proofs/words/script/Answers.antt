use Rattle.std.proofs.lemmas.Result.{IfOk-weaker}
use Rattle.clk_words.proofs.WordLemmas.{word-more}
use Rattle.clk_words.proofs.words.script.Goals as goal

pub returns : goal.returns
returns c =
    let tree = word-more _ _ _ _ _ c.in_ok-arg.ensures c.in_ok-titled.ensures c.file.ensures in
    let script = word-more _ _ _ _ _ c.in_ok-arg-2.ensures tree c.file-2.ensures in
    IfOk-weaker c.arg-3.result _ _ (λ _ adds. word-more _ _ _ _ _ adds script c.file_option.ensures) c.arg-3.ensures
