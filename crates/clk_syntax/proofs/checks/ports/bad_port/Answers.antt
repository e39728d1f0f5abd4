use Rattle.clk_syntax.proofs.Graphs.FailureLemmas.{bad-port-first}
use Rattle.clk_syntax.proofs.checks.ports.bad_port.Goals as goal

pub loop-link-init : goal.loop-link-init
loop-link-init c = record { within = c.requires; same = bad-port-first c.args.nodes.now c.args.links.now }
