use Rattle.std.proofs.Common.{◌<◌, ◌∙◌, ◌++◌, ◌∷◌, [], ap₂, sym, arith}
use Rattle.clk_tree.specs.Plan.{source_at}
use Rattle.clk_tree.proofs.Building.WiringLemmas.{map-range-more}
use Rattle.clk_tree.proofs.plan.wiring.sources_at_inputs.Goals as goal

pub overflow_cast-source_at : goal.overflow_cast-source_at
overflow_cast-source_at c = let w : c.source_at.result < 256 = c.source_at.ensures.within 256 (omega arith) c.requires.within in omega (arith, w)

pub loop-input-preserved : goal.loop-input-preserved
loop-input-preserved c =
    c.in_ok-push.ensures.items ∙ ap₂ (λ xs x. xs ++ x ∷ []) c.loop-input.invariant c.source_at.ensures.source ∙ sym (map-range-more (source_at c.args.links.now c.args.place) c.loop-input.input)
