use Rattle.std.proofs.lemmas.Result.{on_ok_weaker}
use Rattle.clk_lint.proofs.TextLemmas.{three-pieces}
use Rattle.clk_lint.proofs.lines.push_quantum.Goals as goal

pub returns-clause-said : goal.returns-clause-said
returns-clause-said c =
    let quantum = rw c.from.ensures at c.in_ok-push.ensures.words in
    let longest = rw c.from-2.ensures at c.in_ok-push-2.ensures.words in
    on_ok_weaker c.push_priority.result (three-pieces _ _ _ _ _ _ _ quantum longest) c.push_priority.ensures.said
