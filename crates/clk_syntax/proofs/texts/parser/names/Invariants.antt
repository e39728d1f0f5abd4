use Rattle.std.proofs.Common.{[], length}
use Rattle.clk_syntax.specs.Diagram.{further_name}
use Rattle.clk_syntax.specs.Grammar.{IsName}
use Rattle.clk_syntax.specs.inside.Parse.{Listed}
use Rattle.clk_syntax.proofs.texts.parser.names.Given as goal

abbrev pub invariant-loop-left : goal.invariant-loop-left
invariant-loop-left l = Listed IsName further_name l.fn.first l.fn.tokens l.names.items [] further_name l.left

abbrev pub decreases-loop-left : goal.decreases-loop-left
decreases-loop-left l = length l.left
