-- Tokens as more packets are taken from one inlet, and outlets that go on.
use Rattle.std.proofs.Common.{◌≡◌, ℕ, ◌==◌, Bool, true, false, List, [], ◌∷◌, ◌++◌, append-nil, append_assoc, length, set, Some, slice_get, refl, sym, ap, ◌∙◌, subst, arith}
use Rattle.std.proofs.lemmas.Bool.{eqb-true}
use Rattle.std.proofs.lemmas.List.Folds.{list_any-append}
use Rattle.std.proofs.lemmas.Option.{slice_get_within}
use mathlib.Core.List.{IsPrefix}
use Rattle.clk_packet.specs.declared.packet.Packet.{Packet}
use Rattle.clk_inlet.specs.Halves.{popped, seen as waiting}
use Rattle.clk_inlet.specs.Items.{packet_item, has_end, is_end}
use Rattle.clk_inlet.specs.declared.item.Item.{Item}
use Rattle.clk_inlet.specs.declared.outlet.Outlet.{Outlet}
use Rattle.clk_router.specs.Course.{sender_at}
use Rattle.clk_router.specs.Events.{Setup}
use Rattle.clk_live.specs.State.{IsTokenOf, GoesOn, AllGoOn}
use Rattle.clk_live.specs.Taking.{HasNone, GaveAll}
use Rattle.clk_live.proofs.Lists.{set-here, set-other, in-front, at-end, zip-same, zip-one, zip-then, member, zip-length, zip-read}

module _ (setup : Setup) (items : List (List Item)) (i : ℕ) (old new : List Item) (its : slice_get items i ≡ Some old) (more : List Item) (grows : new ≡ old ++ more) where
  -- each packet keeps its token
  pub token-stays : (p : Packet) (token : ℕ) → IsTokenOf setup items p token → IsTokenOf setup (set items i new) p token
  token-stays p token h = by_place (h.place == i) refl
    where
      by_place : (b : Bool) → (h.place == i) ≡ b → IsTokenOf setup (set items i new) p token
      by_place true e =
          let here : h.place ≡ i = eqb-true h.place i e in
          let same : Some h.its_items ≡ Some old = sym h.its ∙ ap (slice_get items) here ∙ its in
          let is : h.its_items ≡ old = cc same in
          record {
            place = i;
            its_items = new;
            sender = ap (sender_at setup) (sym here) ∙ h.sender;
            its = set-here items i old new its;
            item = ap (λ l. slice_get l p.number) grows ∙ in-front old more p.number (packet_item p.length token) (ap (λ l. slice_get l p.number) (sym is) ∙ h.item);
          }
      by_place false e = record { place = h.place; its_items = h.its_items; sender = h.sender; its = set-other items i h.place new h.its_items e h.its; item = h.item }

-- the packet that comes next has the token that came with it
pub token-comes : (setup : Setup) (items : List (List Item)) (i : ℕ) (old new : List Item) → slice_get items i ≡ Some old → (p : Packet) (token : ℕ) → sender_at setup i ≡ Some p.sender → new ≡ old ++ packet_item p.length token ∷ []
    → p.number ≡ length old → IsTokenOf setup (set items i new) p token
token-comes setup items i old new its p token sender grows number = record {
  place = i;
  its_items = new;
  sender = sender;
  its = set-here items i old new its;
  item = ap (λ l. slice_get l p.number) grows ∙ ap (slice_get (old ++ packet_item p.length token ∷ [])) number ∙ at-end old (packet_item p.length token);
}

-- a list that begins with another begins with what that begins with
pub prefix-then : (xs ys zs : List Item) → IsPrefix xs ys → IsPrefix ys zs → IsPrefix xs zs
prefix-then xs ys zs h k = (h.0 ++ k.0, sym (append_assoc xs h.0 k.0) ∙ ap (λ l. l ++ k.0) h.1 ∙ k.1)

-- outlets go on
pub goes-same : (o : Outlet) → GoesOn o o
goes-same o = record { halves = λ i h. h; in_order = λ h. h; keeps = ([], append-nil (popped o)); grows = ([], append-nil (popped o ++ waiting o)) }

pub goes-then : (o p q : Outlet) → GoesOn o p → GoesOn p q → GoesOn o q
goes-then o p q h k = record {
  halves = λ i a. k.halves i (h.halves i a);
  in_order = λ a. k.in_order (h.in_order a);
  keeps = prefix-then (popped o) (popped p) (popped q) h.keeps k.keeps;
  grows = (h.grows.0 ++ k.grows.0, sym (append_assoc (popped o ++ waiting o) h.grows.0 k.grows.0) ∙ ap (λ l. l ++ k.grows.0) h.grows.1 ∙ k.grows.1);
}

pub all-same : (os : List Outlet) → AllGoOn os os
all-same = zip-same GoesOn goes-same

pub all-then : (os ps qs : List Outlet) → AllGoOn os ps → AllGoOn ps qs → AllGoOn os qs
all-then = zip-then GoesOn goes-then

pub one-goes : (os : List Outlet) (i : ℕ) (o p : Outlet) → slice_get os i ≡ Some o → GoesOn o p → AllGoOn os (set os i p)
one-goes = zip-one GoesOn goes-same

-- what ended later had not ended before
pub not-ended : (xs ys : List Item) → IsPrefix xs ys → has_end ys ≡ false → has_end xs ≡ false
not-ended xs ys h open_yet =
    let e : has_end (xs ++ h.0) ≡ false = ap has_end h.1 ∙ open_yet in
    grind (arith, list_any-append is_end xs h.0, e)

-- an outlet in whose ring nothing was seen gave all
pub gave-none : (old new : List Outlet) (place : ℕ) → AllGoOn old new → HasNone old new place → GaveAll old new place
gave-none old new place goes none = λ o n at now open_yet.
    (let k = zip-read GoesOn old new place o n goes at now in
    let nothing : waiting o ≡ [] = none o n at now open_yet in
    (k.keeps.0, ap (λ l. l ++ k.keeps.0) (ap (λ l. popped o ++ l) nothing ∙ append-nil (popped o)) ∙ k.keeps.1))

-- an outlet of which all that was seen in its ring was popped gave all
pub gave-run : (old : List Outlet) (place : ℕ) (o new : Outlet) (run : List Item) → slice_get old place ≡ Some o → (has_end (popped new) ≡ false → IsPrefix (waiting o) run) → (has_end (popped new) ≡ false → popped new ≡ popped o ++ run) → GaveAll old (set old place new) place
gave-run old place o new run its all grows = λ a b here now open_yet.
    (let was : Some a ≡ Some o = sym here ∙ its in
    let is : Some b ≡ Some new = sym now ∙ set-here old place o new its in
    let first : a ≡ o = cc was in
    let second : b ≡ new = cc is in
    subst (λ (u : Outlet). IsPrefix (popped u ++ waiting u) (popped b)) (sym first) (subst (λ (u : Outlet). IsPrefix (popped o ++ waiting o) (popped u)) (sym second) (begins (subst (λ (u : Outlet). has_end (popped u) ≡ false) second open_yet))))
  where
    begins : has_end (popped new) ≡ false → IsPrefix (popped o ++ waiting o) (popped new)
    begins open_yet = let h = all open_yet in (h.0, append_assoc (popped o) (waiting o) h.0 ∙ ap (λ (xs : List Item). popped o ++ xs) h.1 ∙ sym (grows open_yet))

-- an outlet that gave all has given it later on
pub gave-later : (start mid new : List Outlet) (place : ℕ) → AllGoOn start mid → AllGoOn mid new → GaveAll start mid place → GaveAll start new place
gave-later start mid new place before after gave = λ o n at now open_yet.
    (let m = member mid place (let many = zip-length GoesOn start mid before in let within = slice_get_within start place o at in omega (arith, many, within)) in
    let k = zip-read GoesOn mid new place m.0 n after m.1 now in
    prefix-then (popped o ++ waiting o) (popped m.0) (popped n) (gave o m.0 at m.1 (not-ended (popped m.0) (popped n) k.keeps open_yet)) k.keeps)

-- from an earlier state on
pub gave-before : (start mid new : List Outlet) (place : ℕ) → AllGoOn start mid → AllGoOn mid new → GaveAll mid new place → GaveAll start new place
gave-before start mid new place before after gave = λ o n at now open_yet.
    (let m = member mid place (let many = zip-length GoesOn start mid before in let within = slice_get_within start place o at in omega (arith, many, within)) in
    let h = zip-read GoesOn start mid place o m.0 before at m.1 in
    prefix-then (popped o ++ waiting o) (popped m.0 ++ waiting m.0) (popped n) h.grows (gave m.0 n m.1 now open_yet))
