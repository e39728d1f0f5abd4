use Rattle.clk_syntax.proofs.Parsing.ParseLemmas.{hops-none, hops-more}
use Rattle.clk_syntax.proofs.texts.parser.hops.Goals as goal

pub loop-from-init : goal.loop-from-init
loop-from-init c = hops-none _ _ _

pub loop-from-preserved : goal.loop-from-preserved
loop-from-preserved c = hops-more c.loop-from.invariant.0 c.loop-from.invariant.1 c.in_ok-to.ensures.read
