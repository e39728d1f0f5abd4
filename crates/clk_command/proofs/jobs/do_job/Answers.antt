use Rattle.std.proofs.lemmas.Result.{on_ok_weaker}
use Rattle.clk_command.proofs.TaskLemmas.{does-live, does-run}
use Rattle.clk_command.proofs.jobs.do_job.Goals as goal

pub returns-in-Run-clause-done : goal.returns-in-Run-clause-done
returns-in-Run-clause-done g c = on_ok_weaker c.run_job.result (λ h. does-run _ _ _ _ _ _ c.in-Run.is h) c.run_job.ensures.written

pub returns-in-Live-clause-done : goal.returns-in-Live-clause-done
returns-in-Live-clause-done g c = on_ok_weaker c.live_job.result (λ h. does-live _ _ _ _ _ _ _ c.in-Live.is h) c.live_job.ensures.written
