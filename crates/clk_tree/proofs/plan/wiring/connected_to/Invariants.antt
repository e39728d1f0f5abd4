use Rattle.std.proofs.Common.{◌≡◌, ◌-◌, ◌++◌, length, filter}
use Rattle.std.specs.List.{range_with_len}
use Rattle.clk_tree.specs.Plan.{is_connected}
use Rattle.clk_tree.proofs.plan.wiring.connected_to.Given as goal

-- the sources so far and those in what is left are all
abbrev pub invariant-loop-source : goal.invariant-loop-source
invariant-loop-source l =
    l.sources.items ++ filter (is_connected l.graph.links.now l.place) (range_with_len l.source (length l.graph.nodes.now - l.source))
    ≡ filter (is_connected l.graph.links.now l.place) (range_with_len 0 (length l.graph.nodes.now))
