-- Halves that meet, one pair after another, and what a live router is then known to have settled.
use Rattle.std.proofs.Common.{◌≡◌, ℕ, ◌+◌, ◌<◌, ◌==◌, ◌⊎◌, inl, inr, false, List, [], ◌∷◌, map, set, Some, slice_get, refl, sym, ap, ap₂, ◌∙◌, subst, arith}
use Rattle.std.specs.List.{AllZip}
use Rattle.std.proofs.lemmas.Bool.Decides.{nat_tests}
use Rattle.clk_inlet.specs.Halves.{offered, popped, taken}
use Rattle.clk_inlet.specs.Items.{packets, has_end}
use Rattle.clk_inlet.specs.declared.inlet.Inlet.{Inlet}
use Rattle.clk_inlet.specs.declared.item.Item.{Item}
use Rattle.clk_inlet.specs.declared.outlet.Outlet.{Outlet}
use Rattle.clk_live.specs.Outcome.{AreAllEnded}
use Rattle.clk_live.specs.inside.Met.{HaveMet}
use Rattle.clk_live.proofs.Lists.{set-cases}

-- the first pairs have met
abbrev pub MetFirst : ℕ → List Inlet → List Outlet → Type 0
MetFirst n inlets outlets = (k : ℕ) (i : Inlet) (o : Outlet) → k < n → slice_get inlets k ≡ Some i → slice_get outlets k ≡ Some o → HaveMet i o

pub met-more : (n : ℕ) (inlets : List Inlet) (outlets : List Outlet) (i : Inlet) (o : Outlet) → MetFirst n inlets outlets → HaveMet i o → MetFirst (n + 1) (set inlets n i) (set outlets n o)
met-more n inlets outlets i o before both = λ k a b low at here. by_place k a b low (set-cases inlets n k i a at) (set-cases outlets n k o b here)
  where
    by_place : (k : ℕ) (a : Inlet) (b : Outlet) → k < n + 1 → ((k ≡ n) × (i ≡ a)) ⊎ (((k == n) ≡ false) × (slice_get inlets k ≡ Some a)) → ((k ≡ n) × (o ≡ b)) ⊎ (((k == n) ≡ false) × (slice_get outlets k ≡ Some b)) → HaveMet a b
    by_place k a b low (inl x) (inl y) = subst (λ (j : Inlet). HaveMet j b) x.1 (subst (HaveMet i) y.1 both)
    by_place k a b low (inl x) (inr y) = let same = x.0 in let other = y.0 in absurd (grind (arith, nat_tests))
    by_place k a b low (inr x) (inl y) = let same = y.0 in let other = x.0 in absurd (grind (arith, nat_tests))
    by_place k a b low (inr x) (inr y) = before k a b (let other = x.0 in grind (arith, nat_tests)) x.1 y.1

-- what each taker popped is all that its sender pushed
pub all-same : (inlets : List Inlet) (outlets : List Outlet) → AllZip HaveMet inlets outlets → AreAllEnded outlets → map offered inlets ≡ map taken outlets
all-same [] [] h ended = refl
all-same [] (o ∷ outlets) h ended = absurd h
all-same (i ∷ inlets) [] h ended = absurd h
all-same (i ∷ inlets) (o ∷ outlets) h ended = ap₂ (λ (xs : List Item) (xss : List (List Item)). xs ∷ xss) (ap packets (sym (h.0.all ended.0))) (all-same inlets outlets h.1 ended.1)

pub taken-same : (old new : List Outlet) → map popped new ≡ map popped old → map taken new ≡ map taken old
taken-same [] [] e = refl
taken-same [] (o ∷ new) e = absurd (cc)
taken-same (o ∷ old) [] e = absurd (cc)
taken-same (o ∷ old) (p ∷ new) e =
    let first : popped p ≡ popped o = cc in
    let rest : map popped new ≡ map popped old = cc in
    ap₂ (λ (xs : List Item) (xss : List (List Item)). xs ∷ xss) (ap packets first) (taken-same old new rest)

pub ended-same : (old new : List Outlet) → map popped new ≡ map popped old → AreAllEnded old → AreAllEnded new
ended-same [] [] e h = tt
ended-same [] (o ∷ new) e h = absurd (cc)
ended-same (o ∷ old) [] e h = absurd (cc)
ended-same (o ∷ old) (p ∷ new) e h =
    let first : popped p ≡ popped o = cc in
    let rest : map popped new ≡ map popped old = cc in
    (ap has_end first ∙ h.0, ended-same old new rest h.1)
