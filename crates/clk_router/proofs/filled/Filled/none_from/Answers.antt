use Rattle.std.proofs.Common.{ap, sym, ◌∙◌, ◌%◌, ◌+◌, slice_index, arith}
use Rattle.std.specs.Int.{bit_at}
use Rattle.clk_router.proofs.FilledLemmas.{bit-after}
use Rattle.clk_router.proofs.filled.Filled.none_from.Goals as goal

pub returns-in-Some : goal.returns-in-Some
returns-in-Some c k low =
    let words = c.args.self.now.words.items in
    let found = c.in-Some.ensures.lookup.3.1 0 ∙ ap (λ l. slice_index l c.from.result) c.deref.ensures.value ∙ ap (slice_index words) c.from.ensures in
    let within = c.zeros_from.ensures.within in
    bit-after words c.args.queue k (omega (arith, within, low)) ∙ ap (λ w. bit_at w (c.args.queue % 64 + k)) (sym found) ∙ c.zeros_from.ensures.zeros k low
