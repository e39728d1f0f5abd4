use Rattle.clk_packet.proofs.Callers.Written.{wrote-last}
use Rattle.clk_command.proofs.jobs.script_builtin.Goals as goal

pub returns-clause-wrote : goal.returns-clause-wrote
returns-clause-wrote g c = wrote-last _ _ _ _ _ (λ text means. (_, c.in_ok-plan.ensures.denotes, means)) c.run_script.ensures.wrote
