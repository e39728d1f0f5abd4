use Rattle.std.proofs.Common.{◌≡◌, ◌<◌, ◌++◌, ◌∷◌, [], List, Option, Some, None, Result, Ok, Err, IsOk, OnOk, IfSome, false, ℕ, ap, sym, refl, ◌∙◌, arith}
use Rattle.std.proofs.lemmas.Bool.Decides.{nat_tests}
use mathlib.Core.List.{IsPrefix}
use Rattle.clk_inlet.specs.Items.{packet_item, packets, has_end, is_end}
use Rattle.clk_inlet.specs.Halves.{pushed, fits, popped, seen}
use Rattle.clk_inlet.specs.declared.item.Item.{Item}
use Rattle.clk_inlet.specs.declared.inlet.Refusal.{Refusal}
use Rattle.clk_inlet_tests.proofs.calling.through.Goals as goal

accepted : (r : Result ℕ Refusal) (P : Type 0) → IsOk r → OnOk r P → P
accepted (Ok n) P ok h = h
accepted (Err e) P ok h = absurd (grind arith)

-- where one packet is seen and none was popped before, it is taken
module _ (x : Item) (before waiting now left : List Item) (first : before ≡ []) (all : before ++ waiting ≡ x ∷ []) (packet : is_end x ≡ false) (grows : IsPrefix (before ++ waiting) (now ++ left)) where
  begins : x ∷ grows.0 ≡ now ++ left
  begins = ap (λ (l : List Item). l ++ grows.0) (sym all) ∙ grows.1

  given : (got : Option Item) → IfSome got (λ y. now ≡ before ++ y ∷ []) → (got ≡ None → packets now ≡ packets before) → (got ≡ None → has_end now ≡ false → waiting ≡ []) → got ≡ Some x
  given (Some y) came_so none none_seen =
      let mine : now ≡ y ∷ [] = came_so ∙ ap (λ (l : List Item). l ++ y ∷ []) first in
      let e : x ∷ grows.0 ≡ y ∷ left = begins ∙ ap (λ (l : List Item). l ++ left) mine in
      cc
  given None came_so none none_seen = absurd (never now (none refl) (none_seen refl) begins)
    where
      never : (l : List Item) → packets l ≡ packets before → (has_end l ≡ false → waiting ≡ []) → x ∷ grows.0 ≡ l ++ left → ⊥
      never [] same unseen e = let no : [] ≡ x ∷ [] = ap (λ (k : List Item). k ++ []) (sym first) ∙ ap (λ (k : List Item). before ++ k) (sym (unseen refl)) ∙ all in cc
      never (y ∷ ys) same unseen e =
          let at : x ≡ y = cc in
          let kept : is_end y ≡ false = ap is_end (sym at) ∙ packet in
          let no : packets (y ∷ ys) ≡ [] = same ∙ ap packets first in
          grind (arith, kept, no)

pub beside-requires : goal.beside-requires
beside-requires c = record { halves = c.offer.ensures.halves _ c.in_ok-inlet.ensures.halves }

pub returns : goal.returns
returns c =
    let o = c.in_ok-inlet in
    let x = packet_item c.args.length c.args.token in
    let b = c.beside in
    let fit : 0 < fits o.inlet = omega (arith, o.ensures.fits) in
    let put_so : pushed c.offer.new.self ≡ pushed o.inlet ++ x ∷ [] = accepted c.offer.result _ (c.offer.ensures.succeeds fit) c.offer.ensures.pushed in
    let all : popped b.new.self ++ seen b.new.self ≡ x ∷ [] = b.ensures.all ∙ b.ensures.inlet.0 ∙ put_so ∙ ap (λ (l : List Item). l ++ x ∷ []) o.ensures.empty.0 in
    given x (popped b.new.self) (seen b.new.self) (popped c.take.new.self) (seen c.take.new.self) (b.ensures.popped ∙ o.ensures.empty.1) all (grind (arith, nat_tests, c.requires)) c.take.ensures.grows c.take.result c.take.ensures.popped c.take.ensures.none c.take.ensures.none_seen
