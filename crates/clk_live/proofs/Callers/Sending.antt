-- Inlets that come back from the threads of their senders.
use Rattle.std.proofs.Common.{◌≡◌, ℕ, List, [], ◌∷◌, ◌++◌, append-nil, append_assoc, map, refl, sym, ap, ap₂, ◌∙◌}
use Rattle.std.specs.List.{AllByRecursion, AllZip}
use Rattle.clk_inlet.specs.Halves.{pushed, offered, fits, AreHalves}
use Rattle.clk_inlet.specs.Items.{packets}
use Rattle.clk_inlet.specs.declared.inlet.Inlet.{Inlet}
use Rattle.clk_inlet.specs.declared.item.Item.{Item}
use Rattle.clk_inlet.specs.declared.outlet.Outlet.{Outlet}
use Rattle.clk_live.proofs.Lists.{zip-push}
use Rattle.clk_live.proofs.Callers.Halves.{all_come_back}
use Rattle.clk_live.specs.Sending.{HasSent}

-- nothing was sent, and one part after another
pub nothing_sent : (i j : Inlet) → pushed j ≡ pushed i → ((o : Outlet) → AreHalves i o → AreHalves j o) → HasSent i [] j
nothing_sent i j same halves = record { offered = ap packets same ∙ sym (append-nil (offered i)); halves = halves }

pub sent_then : (i j k : Inlet) (xs ys : List Item) → HasSent i xs j → HasSent j ys k → HasSent i (xs ++ ys) k
sent_then i j k xs ys h g = record { offered = g.offered ∙ ap (λ (l : List Item). l ++ ys) h.offered ∙ append_assoc (offered i) xs ys; halves = λ o b. g.halves o (h.halves o b) }

-- lists side by side: one member more, and a third list beside the second
pub zip_push : {X Y : Type 0} (R : X → Y → Type 0) (xs : List X) (ys : List Y) (x : X) (y : Y) → AllZip R xs ys → R x y → AllZip R (xs ++ x ∷ []) (ys ++ y ∷ [])
zip_push R xs ys x y h r = zip-push R xs ys x y h r

module _ {X Y Z : Type 0} (R : X → Y → Type 0) (S : Y → Z → Type 0) (T : X → Z → Type 0) (join : (x : X) (y : Y) (z : Z) → R x y → S y z → T x z) where
  pub zip_joined : (xs : List X) (ys : List Y) (zs : List Z) → AllZip R xs ys → AllZip S ys zs → AllZip T xs zs
  zip_joined [] [] zs h k = k
  zip_joined [] (y ∷ ys) zs h k = absurd h
  zip_joined (x ∷ xs) [] zs h k = absurd h
  zip_joined (x ∷ xs) (y ∷ ys) [] h k = absurd k
  zip_joined (x ∷ xs) (y ∷ ys) (z ∷ zs) h k = (join x y z h.0 k.0, zip_joined xs ys zs h.1 k.1)

-- through an empty inlet nothing was sent
pub nothing_yet : (room : ℕ) (inlets : List Inlet) → AllByRecursion (λ (i : Inlet). (pushed i ≡ []) × (fits i ≡ room)) inlets → AllByRecursion (λ (i : Inlet). offered i ≡ []) inlets
nothing_yet room [] h = tt
nothing_yet room (i ∷ inlets) h = (ap packets h.0.0, nothing_yet room inlets h.1)

-- senders whose inlets came back once these packets were sent
module _ {X : Type 0} (inlet_of : X → Inlet) (packets_of : X → List Item) where
  kept_halves : (senders : List X) (new : List Inlet) → AllZip (λ (s : X) (i : Inlet). HasSent (inlet_of s) (packets_of s) i) senders new → AllZip (λ (i j : Inlet). (o : Outlet) → AreHalves i o → AreHalves j o) (map inlet_of senders) new
  kept_halves [] [] h = tt
  kept_halves [] (i ∷ new) h = absurd h
  kept_halves (s ∷ senders) [] h = absurd h
  kept_halves (s ∷ senders) (i ∷ new) h = (h.0.halves, kept_halves senders new h.1)

  pub come_back : (senders : List X) (new : List Inlet) (outlets : List Outlet) → AllZip AreHalves (map inlet_of senders) outlets → AllZip (λ (s : X) (i : Inlet). HasSent (inlet_of s) (packets_of s) i) senders new → AllZip AreHalves new outlets
  come_back senders new outlets h sent = all_come_back (map inlet_of senders) new outlets h (kept_halves senders new sent)

  pub all_offered : (senders : List X) (new : List Inlet) → AllByRecursion (λ (i : Inlet). offered i ≡ []) (map inlet_of senders) → AllZip (λ (s : X) (i : Inlet). HasSent (inlet_of s) (packets_of s) i) senders new → map offered new ≡ map packets_of senders
  all_offered [] [] none h = refl
  all_offered [] (i ∷ new) none h = absurd h
  all_offered (s ∷ senders) [] none h = absurd h
  all_offered (s ∷ senders) (i ∷ new) none h = ap₂ (λ (xs : List Item) (xss : List (List Item)). xs ∷ xss) (h.0.offered ∙ ap (λ (l : List Item). l ++ packets_of s) none.0) (all_offered senders new none.1 h.1)
