use Rattle.std.proofs.Common.{ℕ, List, length, map, codes, get_or, refl, ap, arith, length-append}
use Rattle.std.proofs.lemmas.Fmt.{decimal_digit}
use Rattle.clk_explain.specs.Explanation.{line_of, shown}
use Rattle.clk_explain.proofs.examples.explanation_examples.Goals as goal

pub returns-clause-explains : goal.returns-clause-explains
returns-clause-explains c = record { sentence = codes "w"; expected = codes "e"; is = rw (decimal_digit 2 (omega arith), decimal_digit 1 (omega arith)) refl }

pub returns-clause-not_other_line : goal.returns-clause-not_other_line
returns-clause-not_other_line c h =
    let is = rw (decimal_digit 2 (omega arith)) at h.is in
    let first = ap (λ (l : List ℕ). get_or l 0 0) is in
    omega (arith, first)

pub returns-clause-not_placed : goal.returns-clause-not_placed
returns-clause-not_placed c h =
    let all = ap length h.is in
    let both = length-append (line_of h.sentence) (line_of h.expected) in
    let one = length-append (map shown h.sentence) (codes "\n") in
    let other = length-append (map shown h.expected) (codes "\n") in
    omega (arith, all, both, one, other)
