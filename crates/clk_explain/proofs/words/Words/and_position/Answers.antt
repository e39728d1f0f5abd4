use Rattle.std.proofs.Common.{List, ℕ, ◌++◌, take, codes, decimal, ap, sym, ◌∙◌, append_assoc}
use Rattle.clk_explain.specs.declared.limits.TheConstants.{MAX_WORDS}
use Rattle.clk_explain.specs.Position.{line_at, column_at}
use Rattle.clk_explain.proofs.WordLemmas.{lines-three}
use Rattle.clk_explain.proofs.words.Words.and_position.Goals as goal

pub returns : goal.returns
returns c =
    let position = c.position_of-position in
    let three = lines-three MAX_WORDS c.args.self (decimal position.result.line) (codes ":") (decimal position.result.column) _ _ _ c.and_number.ensures c.and.ensures c.and_number-2.ensures in
    let with_line = rw position.ensures.line at three in
    let whole = rw position.ensures.column at with_line in
    let line = decimal (line_at c.args.text.now c.args.offset) in
    let column = decimal (column_at c.args.text.now c.args.offset) in
    whole ∙ ap (λ (l : List ℕ). take MAX_WORDS (c.args.self ++ l)) (sym (append_assoc line (codes ":") column))
