use Rattle.std.proofs.Common.{ap, refl}
use Rattle.std.proofs.lemmas.Result.{IfOk-weaker}
use Rattle.clk_packet.proofs.Callers.Written.{wrote-last}
use Rattle.clk_report.specs.VisitCsv.{visits_text}
use Rattle.clk_command.proofs.over.run_logged.Goals as goal

pub returns-clause-wrote : goal.returns-clause-wrote
returns-clause-wrote g c =
    wrote-last _ _ _ _ _ (λ text m. (
      visits_text m.0,
      IfOk-weaker c.run_trace.result _ _ (λ logs same. ap visits_text (same refl)) m.1,
      (_, c.in_ok-plan.ensures.plan, (m.0, m.2, refl)),
    )) c.run_trace.ensures.wrote
