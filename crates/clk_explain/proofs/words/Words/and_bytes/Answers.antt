use Rattle.std.proofs.Common.{List, ℕ, ◌++◌, take, sym, ap, ◌∙◌}
use Rattle.clk_explain.specs.declared.limits.TheConstants.{MAX_WORDS}
use Rattle.clk_explain.proofs.WordLemmas.{take-append-room}
use Rattle.clk_explain.proofs.words.Words.and_bytes.Goals as goal

pub returns : goal.returns
returns c =
    c.in-Ok.ensures.ok
    ∙ ap (λ (l : List ℕ). c.self.inside.bytes.items ++ l) c.parts_at.ensures.front
    ∙ sym (take-append-room MAX_WORDS c.remaining_capacity.result c.self.inside.bytes.items c.args.bytes.now c.remaining_capacity.ensures)
    ∙ ap (λ (l : List ℕ). take MAX_WORDS (l ++ c.args.bytes.now)) c.self.view_is
