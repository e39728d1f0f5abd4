use Rattle.std.proofs.Common.{rules}
use Rattle.clk_gate.proofs.Callers.Unknown.{known-none, unknown-some}
use Rattle.clk_gate.proofs.known.check_senders.Goals as goal

pub returns-in_err-check_sender-clause-fault : goal.returns-in_err-check_sender-clause-fault
returns-in_err-check_sender-clause-fault c = search (rules, unknown-some)

pub returns-clause-known : goal.returns-clause-known
returns-clause-known c = search (rules, known-none)

pub returns-in_ok-check_sender-clause-known : goal.returns-in_ok-check_sender-clause-known
returns-in_ok-check_sender-clause-known c = search (rules, known-none)
