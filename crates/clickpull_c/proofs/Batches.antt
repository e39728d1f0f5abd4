-- Items that an inlet accepted, one batch after another.
use Rattle.std.proofs.Common.{◌≡◌, ℕ, ◌+◌, ◌<◌, ◌≤◌, List, [], ◌∷◌, ◌++◌, length, take, drop, get_or, sym, ap, ◌∙◌, arith}
use Rattle.std.proofs.Math.Seq.{take-add}
use Rattle.std.proofs.lemmas.List.{append_assoc, length-drop, take_more}
use Rattle.clk_inlet.specs.declared.inlet.Inlet.{Inlet}
use Rattle.clk_inlet.specs.declared.item.Item.{Item}
use Rattle.clk_inlet.specs.Items.{packets}
use Rattle.clk_inlet.specs.Halves.{pushed, offered}
use Rattle.clickpull_c.specs.Inlets.{AcceptsMany}

-- Items stand behind others; both parts are items of one list, and stand together in it.
behind : (old mid new part more : List Item) (items : List Item) (done : ℕ) → mid ≡ old ++ part → new ≡ mid ++ more → take done items ≡ part ++ more → new ≡ old ++ take done items
behind old mid new part more items done first second whole = second ∙ ap (λ (l : List Item). l ++ more) first ∙ append_assoc old part more ∙ ap (λ (l : List Item). old ++ l) (sym whole)

pub accepts-more : (old mid new : Inlet) (items : List Item) (done more : ℕ) → AcceptsMany old mid items done → AcceptsMany mid new (drop done items) more → AcceptsMany old new items (done + more)
accepts-more old mid new items done more first second =
    let part = take done items in
    let rest = take more (drop done items) in
    let whole : take (done + more) items ≡ part ++ rest = take-add done more items in
    record {
      within = let left = length-drop done items in let before = first.within in let behind = second.within in omega (arith, left, before, behind);
      pushes = behind (pushed old) (pushed mid) (pushed new) part rest items (done + more) first.pushes second.pushes whole;
      offers = behind (offered old) (offered mid) (offered new) part rest items (done + more) first.offers second.offers whole;
    }

pub accepts-next : (old mid new : Inlet) (items : List Item) (done : ℕ) (none : Item) → done < length items → AcceptsMany old mid items done → pushed new ≡ pushed mid ++ get_or items done none ∷ []
    → offered new ≡ offered mid ++ get_or items done none ∷ [] → AcceptsMany old new items (done + 1)
accepts-next old mid new items done none low first push offer =
    let part = take done items in
    let next = get_or items done none ∷ [] in
    let whole : take (done + 1) items ≡ part ++ next = take_more items done none low in
    record {
      within = omega arith;
      pushes = behind (pushed old) (pushed mid) (pushed new) part next items (done + 1) first.pushes push whole;
      offers = behind (offered old) (offered mid) (offered new) part next items (done + 1) first.offers offer whole;
    }

-- what a batch accepted of these items
pub accepts-batch : (old new : Inlet) (items : List Item) (done : ℕ) → done ≤ length items → pushed new ≡ pushed old ++ take done items → offered new ≡ offered old ++ take done items → AcceptsMany old new items done
accepts-batch old new items done within push offer = record { within = within; pushes = push; offers = offer }

-- an inlet into which nothing more was pushed accepted as much
pub accepts-same : (old mid new : Inlet) (items : List Item) (done : ℕ) → pushed new ≡ pushed mid → AcceptsMany old mid items done → AcceptsMany old new items done
accepts-same old mid new items done same first = record {
  within = first.within;
  pushes = same ∙ first.pushes;
  offers = ap packets same ∙ first.offers;
}
