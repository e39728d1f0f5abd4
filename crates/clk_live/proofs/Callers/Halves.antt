-- The inlets of a live router stay the other halves of its outlets, whichever threads have them.
use Rattle.std.proofs.Common.{◌≡◌, ℕ, zero, suc, List, [], ◌∷◌, map, set, Some, slice_get, sym, ap, ◌∙◌, subst}
use Rattle.std.specs.List.{AllZip}
use Rattle.std.proofs.lemmas.Simd.{map-map}
use Rattle.clk_inlet.specs.Halves.{pushed, offered, AreHalves}
use Rattle.clk_inlet.specs.Items.{packets}
use Rattle.clk_inlet.specs.declared.inlet.Inlet.{Inlet}
use Rattle.clk_inlet.specs.declared.outlet.Outlet.{Outlet}
use Rattle.clk_live.specs.State.{AllGoOn}
use Rattle.clk_live.proofs.Outlets.{all-same, all-then}

-- outlets that nothing was done with go on, and one call follows another
pub all_same : (outlets : List Outlet) → AllGoOn outlets outlets
all_same = all-same

pub all_then : (old mid new : List Outlet) → AllGoOn old mid → AllGoOn mid new → AllGoOn old new
all_then = all-then

-- the outlets go on
pub all_go_on : (inlets : List Inlet) (old new : List Outlet) → AllZip AreHalves inlets old → AllGoOn old new → AllZip AreHalves inlets new
all_go_on [] [] [] h g = tt
all_go_on [] [] (n ∷ new) h g = absurd g
all_go_on [] (o ∷ old) new h g = absurd h
all_go_on (i ∷ inlets) [] new h g = absurd h
all_go_on (i ∷ inlets) (o ∷ old) [] h g = absurd g
all_go_on (i ∷ inlets) (o ∷ old) (n ∷ new) h g = (g.0.halves i h.0, all_go_on inlets old new h.1 g.1)

-- the inlets come back from the threads that had them
pub all_come_back : (old new : List Inlet) (outlets : List Outlet) → AllZip AreHalves old outlets → AllZip (λ (i j : Inlet). (o : Outlet) → AreHalves i o → AreHalves j o) old new → AllZip AreHalves new outlets
all_come_back [] [] outlets h b = h
all_come_back [] (j ∷ new) outlets h b = absurd b
all_come_back (i ∷ old) [] outlets h b = absurd b
all_come_back (i ∷ old) (j ∷ new) [] h b = absurd h
all_come_back (i ∷ old) (j ∷ new) (o ∷ outlets) h b = (b.0 o h.0, all_come_back old new outlets h.1 b.1)

-- one member is replaced by one that stands to all others as it did
module _ {X Y : Type 0} (R : X → Y → Type 0) where
  one_replaced : (xs : List X) (ys : List Y) (i : ℕ) (x new : X) → slice_get xs i ≡ Some x → ((y : Y) → R x y → R new y) → AllZip R xs ys → AllZip R (set xs i new) ys
  one_replaced [] ys i x new e goes h = h
  one_replaced (a ∷ xs) [] i x new e goes h = absurd h
  one_replaced (a ∷ xs) (b ∷ ys) zero x new e goes h = let is : a ≡ x = cc in (goes b (subst (λ z. R z b) is h.0), h.1)
  one_replaced (a ∷ xs) (b ∷ ys) (suc i) x new e goes h = (h.0, one_replaced xs ys i x new e goes h.1)

-- one inlet goes on
pub one_goes_on : (inlets : List Inlet) (outlets : List Outlet) (i : ℕ) (x y : Inlet) → slice_get inlets i ≡ Some x → ((o : Outlet) → AreHalves x o → AreHalves y o) → AllZip AreHalves inlets outlets
    → AllZip AreHalves (set inlets i y) outlets
one_goes_on inlets outlets i x y e goes h = one_replaced AreHalves inlets outlets i x y e goes h

-- where nothing was pushed, nothing was offered
pub offered_same : (old new : List Inlet) → map pushed new ≡ map pushed old → map offered new ≡ map offered old
offered_same old new e = sym (map-map packets pushed new) ∙ ap (map packets) e ∙ map-map packets pushed old
