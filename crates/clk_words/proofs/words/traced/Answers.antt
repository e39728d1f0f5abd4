use Rattle.std.proofs.lemmas.Result.{IfOk-weaker}
use Rattle.clk_words.proofs.WordLemmas.{word-more}
use Rattle.clk_words.proofs.words.traced.Goals as goal

pub returns : goal.returns
returns c =
    let tree = word-more _ _ _ _ _ c.in_ok-arg.ensures c.in_ok-titled.ensures c.file.ensures in
    let trace = word-more _ _ _ _ _ c.in_ok-arg-2.ensures tree c.file-2.ensures in
    let step = word-more _ _ _ _ _ c.in_ok-arg-3.ensures trace c.number.ensures in
    IfOk-weaker c.arg-4.result _ _ (λ _ adds. word-more _ _ _ _ _ adds step c.number-2.ensures) c.arg-4.ensures
