-- The warnings of quanta, one input more.
use Rattle.std.proofs.Common.{◌≡◌, ℕ, ◌+◌, ◌<◌, nat_lt, List, ◌∷◌, ◌++◌, length, drop, get_or, append_assoc, drop-cons, add-one, ap, sym, ◌∙◌}
use Rattle.clk_lint.specs.declared.warning.Warning.{Warning}
use Rattle.clk_lint.specs.declared.warning.Warning.TheVariants.{SmallQuantum}
use Rattle.clk_lint.specs.Warnings.{Spot, if_so, quantum_for, quantum_warnings}

pub quantum-more : (at : Spot) (longest : ℕ → ℕ) (quanta : List ℕ) (input : ℕ) (sources : List ℕ) (quantum most : ℕ) (found more : List Warning) → input < length sources → quantum ≡ quantum_for quanta input
    → most ≡ longest (get_or sources input 0)
    → more ≡ found ++ if_so (nat_lt quantum most) (SmallQuantum at.place input quantum most at.preferred)
    → more ++ quantum_warnings at longest quanta (input + 1) (drop (input + 1) sources) ≡ found ++ quantum_warnings at longest quanta input (drop input sources)
quantum-more at longest quanta input sources quantum most found more within is far added =
    let length_here = longest (get_or sources input 0) in
    let here = if_so (nat_lt (quantum_for quanta input) length_here) (SmallQuantum at.place input (quantum_for quanta input) length_here at.preferred) in
    let rest = quantum_warnings at longest quanta (input + 1) (drop (input + 1) sources) in
    let so : more ≡ found ++ here = added ∙ (ap (λ q. found ++ if_so (nat_lt q most) (SmallQuantum at.place input q most at.preferred)) is
    ∙ ap (λ l. found ++ if_so (nat_lt (quantum_for quanta input) l) (SmallQuantum at.place input (quantum_for quanta input) l at.preferred)) far) in
    let cut : drop input sources ≡ get_or sources input 0 ∷ drop (input + 1) sources = rw add-one (drop-cons sources input 0 within) in
    ap (λ w. w ++ rest) so ∙ (append_assoc found here rest ∙ ap (λ left. found ++ quantum_warnings at longest quanta input left) (sym cut))
