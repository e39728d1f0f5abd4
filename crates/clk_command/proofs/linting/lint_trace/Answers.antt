use Rattle.clk_packet.proofs.Callers.Written.{wrote-last}
use Rattle.clk_command.proofs.RunningLemmas.{trace-tells}
use Rattle.clk_command.proofs.linting.lint_trace.Goals as goal

pub returns-clause-wrote : goal.returns-clause-wrote
returns-clause-wrote g c =
    let tells = trace-tells _ _ c.in_ok-traces.ensures.sound c.in_ok-traces.ensures.sent in
    wrote-last _ _ _ _ _ (λ text is. (_, tells, (rw c.senders.ensures.senders at c.in_ok-check_senders.ensures.known, is))) c.lint.ensures.wrote
