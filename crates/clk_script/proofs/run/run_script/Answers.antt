use Rattle.clk_packet.proofs.Callers.Written.{of-weaker, wrote-so}
use Rattle.clk_script.proofs.run.run_script.Goals as goal

pub returns-clause-wrote : goal.returns-clause-wrote
returns-clause-wrote g c =
    let is = c.in_ok-answer.ensures.answer in
    wrote-so _ _ _ _ _ _ _ (of-weaker (g.R.Source.remaining c.args.reader.now) _ _ (λ script means. (_, means)) (is.means _ _ is.answers.writes)) c.write_answer.ensures
