use Rattle.clk_packet.proofs.Callers.Written.{wrote-last}
use Rattle.clk_command.proofs.linting.lint_over.Goals as goal

pub returns-clause-wrote : goal.returns-clause-wrote
returns-clause-wrote g c = wrote-last _ _ _ _ _ (λ text lints. (_, c.in_ok-plan.ensures.plan, lints)) c.lint_trace.ensures.wrote
