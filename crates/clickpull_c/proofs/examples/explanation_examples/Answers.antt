use Rattle.std.proofs.Common.{◌≡◌, ℕ, List, length, map, codes, ap, arith, length-append}
use Rattle.clk_packet.specs.declared.fault.Fault.{Fault}
use Rattle.clk_explain.specs.Explanation.{Explains, wrong_at, place_of, line_of, shown}
use Rattle.clickpull_c.specs.Explains.{whole, front, nothing}
use Rattle.clickpull_c.proofs.examples.explanation_examples.Goals as goal

-- an explanation has at least the end of its last line
not_none : (text : List ℕ) (fault : Fault) (bytes : List ℕ) → Explains text fault bytes → 0 ≡ length bytes → ⊥
not_none text fault bytes h none =
    let all = ap length h.is in
    let both = length-append (wrong_at text (place_of fault) h.sentence) (line_of h.expected) in
    let last = length-append (map shown h.expected) (codes "\n") in
    omega (arith, none, all, both, last)

pub returns-clause-not_empty : goal.returns-clause-not_empty
returns-clause-not_empty c h = elim h [
  | whole why bytes is explains after needed fits status ↦ not_none _ why bytes explains needed
  | front why bytes is explains after needed short status ↦ not_none _ why bytes explains needed
  | nothing is after needed status ↦ cc
]
