use Rattle.clk_packet.proofs.Callers.Written.{wrote-last}
use Rattle.clk_command.proofs.linting.lint_tree.Goals as goal

pub returns-clause-wrote : goal.returns-clause-wrote
returns-clause-wrote g c = wrote-last _ _ _ _ _ (λ text is. (_, c.in_ok-plan.ensures.plan, is)) c.lint.ensures.wrote
