-- The warnings of an element are its own and those of its inputs.
use Rattle.std.proofs.Common.{◌≡◌, ◌≢◌, ℕ, zero, suc, ◌-◌, List, ◌++◌, Some, slice_get, append_assoc, refl, ap, sym, ◌∙◌, arith}
use Rattle.clk_lint.specs.declared.warning.Warning.{Warning}
use Rattle.clk_tree.specs.Plan.{Planned}
use Rattle.clk_lint.specs.Load.{Trace}
use Rattle.clk_lint.specs.Warnings.{Spot, class_warnings, element_warnings, input_warnings, warnings_at}

-- there is a level, and one less below
level-more : (plan : List Planned) (trace : Trace) (levels : ℕ) (at : Spot) → levels ≢ 0 → warnings_at plan trace levels at ≡ element_warnings plan trace at (warnings_at plan trace (levels - 1)) (slice_get plan at.place)
level-more plan trace zero at some = absurd (some refl)
level-more plan trace (suc levels) at some =
    let less : levels ≡ suc levels - 1 = omega arith in
    ap (λ (n : ℕ). element_warnings plan trace at (warnings_at plan trace n) (slice_get plan at.place)) less

pub own-then-below : (plan : List Planned) (trace : Trace) (levels : ℕ) (at : Spot) (e : Planned) (found own new : List Warning) → levels ≢ 0 → slice_get plan at.place ≡ Some e
    → own ≡ found ++ class_warnings plan trace at e.sources e.class → new ≡ own ++ input_warnings (warnings_at plan trace (levels - 1)) at.preferred e.class e.sources
    → new ≡ found ++ warnings_at plan trace levels at
own-then-below plan trace levels at e found own new some there first second =
    let mine = class_warnings plan trace at e.sources e.class in
    let below = input_warnings (warnings_at plan trace (levels - 1)) at.preferred e.class e.sources in
    let all : warnings_at plan trace levels at ≡ mine ++ below = level-more plan trace levels at some ∙ ap (element_warnings plan trace at (warnings_at plan trace (levels - 1))) there in
    second ∙ (ap (λ w. w ++ below) first ∙ (append_assoc found mine below ∙ ap (λ w. found ++ w) (sym all)))
