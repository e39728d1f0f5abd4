use Rattle.std.proofs.Common.{option_map, sym, ◌∙◌}
use Rattle.std.proofs.lemmas.Result.{on_ok_weaker}
use Rattle.clk_words.specs.Words.{text_of, visits_follow}
use Rattle.clk_command.proofs.TaskLemmas.{out-alone, writes-over}
use Rattle.clk_command.proofs.jobs.script_job.Goals as goal

pub returns-clause-written : goal.returns-clause-written
returns-clause-written g c =
    out-alone c.script_with_visits.result (visits_follow (option_map text_of c.args.visits)) _ _ _ (rw c.in-Some.is (sym c.is_standard.ensures.tested ∙ c.if-is_standard.false))
    (on_ok_weaker c.script_with_visits.result (λ h. (h.0, writes-over _ _ _ _ h.2, h.3)) c.script_with_visits.ensures.wrote.whole)
