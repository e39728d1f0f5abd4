use Rattle.std.proofs.Common.{◌≡◌, ◌++◌, map, take}
use Rattle.clk_syntax.specs.inside.Naming.{node_at}
use Rattle.clk_syntax.proofs.naming.push_nodes.Given as goal

abbrev pub invariant-loop-name : goal.invariant-loop-name
invariant-loop-name l = l.nodes.items ≡ l.initial.nodes.items ++ map (node_at l.role) (take l.name-index l.names)
