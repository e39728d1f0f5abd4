use Rattle.std.proofs.lemmas.Result.{IfOk-weaker}
use Rattle.clk_words.proofs.WordLemmas.{command-more}
use Rattle.clk_words.proofs.words.program.Goals as goal

pub returns : goal.returns
returns c =
    let check = command-more _ _ _ _ _ c.in_ok-subcommand.ensures c.in_ok-top.ensures c.in_ok-check.ensures in
    let lint = command-more _ _ _ _ _ c.in_ok-subcommand-2.ensures check c.in_ok-lint.ensures in
    let script = command-more _ _ _ _ _ c.in_ok-subcommand-3.ensures lint c.in_ok-script.ensures in
    let run = command-more _ _ _ _ _ c.in_ok-subcommand-4.ensures script c.in_ok-run.ensures in
    IfOk-weaker c.subcommand-5.result _ _ (λ _ adds. command-more _ _ _ _ _ adds run c.in_ok-live.ensures) c.subcommand-5.ensures
