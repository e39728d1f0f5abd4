use Rattle.clk_syntax.proofs.Graphs.FailureLemmas.{wrong-kind-first}
use Rattle.clk_syntax.proofs.checks.ports.wrong_kind.Goals as goal

pub loop-link-init : goal.loop-link-init
loop-link-init c = record { within = c.requires; same = wrong-kind-first c.args.nodes.now c.args.links.now }
