use Rattle.std.proofs.Common.{◌≡◌, length}
use Rattle.clk_syntax.specs.Diagram.{next_name}
use Rattle.clk_syntax.specs.inside.Parse.{HopsRead, last_name}
use Rattle.clk_syntax.proofs.texts.parser.hops.Given as goal

abbrev pub invariant-loop-from : goal.invariant-loop-from
invariant-loop-from l =
    (h : HopsRead l.fn.first l.fn.tokens l.fn.connections.items l.connections.items next_name l.left) × (last_name l.fn.first h.hops ≡ l.from)

abbrev pub decreases-loop-from : goal.decreases-loop-from
decreases-loop-from l = length l.left
