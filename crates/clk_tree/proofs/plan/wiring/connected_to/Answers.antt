use Rattle.clk_syntax.specs.Ports.{target}
use Rattle.clk_tree.specs.Plan.{is_connected}
use Rattle.clk_tree.proofs.Building.WiringLemmas.{filter-next}
use Rattle.clk_tree.proofs.plan.wiring.connected_to.Goals as goal
use Rattle.std.proofs.Common.{length, ap, ◌∙◌}
use Rattle.clk_sched.proofs.Callers.Lists.{is_number}

pub loop-source-preserved : goal.loop-source-preserved
loop-source-preserved c =
    filter-next (is_connected c.args.graph.now.links.now c.args.place) c.loop-source.sources.items c.push_if.new.sources.items _ c.loop-source.source (length c.args.graph.now.nodes.now) c.leads-is_connected.result
    (c.leads-is_connected.ensures ∙ ap (λ s. is_number c.args.place (target s c.args.graph.now.links.now)) c.from.ensures) c.loop-source-test.true c.loop-source.invariant c.in_ok-push_if.ensures.added
