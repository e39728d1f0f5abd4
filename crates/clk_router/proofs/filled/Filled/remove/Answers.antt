use Rattle.std.proofs.Common.{◌%◌, ◌∙◌, arith, w64}
use Rattle.std.proofs.lemmas.Nat.Bits.{bit_at_clear_same, bit_at_clear_other}
use Rattle.clk_router.proofs.FilledLemmas.{written-here, others-kept}
use Rattle.clk_router.proofs.filled.Filled.remove.Goals as goal

pub returns-clause-here : goal.returns-clause-here
returns-clause-here c =
    written-here c.args.self.now.words.items c.from.result c.index_mut.result.now _ c.args.queue c.from.ensures c.requires ∙ bit_at_clear_same w64 c.index_mut.result.now (c.args.queue % 64) (omega arith)

pub returns-clause-others : goal.returns-clause-others
returns-clause-others c =
    others-kept c.args.self.now.words.items c.from.result c.index_mut.result.now _ c.args.queue c.from.ensures c.requires c.index_mut.ensures.value (bit_at_clear_other w64 c.index_mut.result.now (c.args.queue % 64) (omega arith))
