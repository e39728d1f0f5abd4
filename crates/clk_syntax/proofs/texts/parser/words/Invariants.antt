use Rattle.std.proofs.Common.{[], length}
use Rattle.clk_syntax.specs.Diagram.{argument}
use Rattle.clk_syntax.specs.Grammar.{IsWord}
use Rattle.clk_syntax.specs.inside.Parse.{Listed}
use Rattle.clk_syntax.proofs.texts.parser.words.Given as goal

abbrev pub invariant-loop-left : goal.invariant-loop-left
invariant-loop-left l = Listed IsWord argument l.fn.first l.fn.tokens l.words.items [] argument l.left

abbrev pub decreases-loop-left : goal.decreases-loop-left
decreases-loop-left l = length l.left
