use Rattle.std.proofs.lemmas.Result.{IfOk-weaker}
use Rattle.clk_words.proofs.WordLemmas.{word-more}
use Rattle.clk_words.proofs.words.live.Goals as goal

pub returns : goal.returns
returns c =
    let recorded = word-more _ _ _ _ _ c.in_ok-arg.ensures c.in_ok-traced.ensures c.file_option.ensures in
    IfOk-weaker c.arg-2.result _ _ (λ _ adds. word-more _ _ _ _ _ adds recorded c.file_option-2.ensures) c.arg-2.ensures
