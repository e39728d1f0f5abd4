use Rattle.std.proofs.Common.{sym, ◌∙◌}
use Rattle.std.proofs.lemmas.Result.{on_ok_weaker}
use Rattle.clk_command.proofs.TaskLemmas.{goes-alone, goes-followed, lives-over, together-weaker}
use Rattle.clk_command.proofs.jobs.live_visits_to.Goals as goal

pub returns-then-is_standard-clause-written : goal.returns-then-is_standard-clause-written
returns-then-is_standard-clause-written g c =
    on_ok_weaker c.live_then_visits.result (λ h. (h.0, h.1.0, goes-followed _ _ _ h.0 (sym c.is_standard.ensures.tested ∙ c.if-is_standard.true) (together-weaker _ _ h.0 (λ text rows means. means.0) h.1.1), h.2)) c.live_then_visits.ensures.wrote.whole

pub returns-clause-written : goal.returns-clause-written
returns-clause-written g c =
    on_ok_weaker c.live_with_visits.result (λ h. (h.0, h.2.0, goes-alone _ _ _ h.0 (sym c.is_standard.ensures.tested ∙ c.if-is_standard.false) (lives-over _ _ _ _ _ _ h.2.1), h.3)) c.live_with_visits.ensures.wrote.whole
