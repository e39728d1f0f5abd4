-- Items that are taken together: none but the last is the end.
use Rattle.std.proofs.Common.{◌≡◌, ◌++◌, ◌∷◌, [], List, ℕ, ◌+◌, ◌-◌, ◌<◌, ◌≤◌, true, false, not, refl, sym, subst, ap, ◌∙◌, take, length, slice_index_or, arith}
use Rattle.std.proofs.lemmas.List.{append-nil, take_more, length-take-le}
use Rattle.std.proofs.lemmas.List.Folds.{list_any-append}
use Rattle.std.proofs.lemmas.List.Elements.{filter-append}
use Rattle.std.specs.declared.alloc.Global.{Global}
use mathlib.Core.List.{IsPrefix}
use Rattle.rtrb.specs.Fifo.{Allowed}
use Rattle.rtrb.specs.Ring.{received, known_items, IsPair, SameConsumer}
use Rattle.rtrb.specs.declared.consumer.Consumer.{Consumer}
use Rattle.clk_inlet.specs.Items.{MayFollow, has_end, is_end, packets}
use Rattle.clk_inlet.specs.Halves.{popped, taken, seen, AreHalves}
use Rattle.clk_inlet.specs.declared.inlet.Inlet.{Inlet}
use Rattle.clk_inlet.specs.declared.item.Item.{Item}
use Rattle.clk_inlet.specs.declared.item.ItemOrder.{ItemOrder}
use Rattle.clk_inlet.specs.declared.outlet.Outlet.{Outlet}
use Rattle.clk_inlet.proofs.Halves.{taker_stays, known_grows, all_taken}
use Rattle.clk_inlet.proofs.Order.{none_before, first_part, still_allowed}

-- without an end all items are packets
plain : (xs : List Item) → has_end xs ≡ false → packets xs ≡ xs
plain [] h = refl
plain (x ∷ xs) h = grind (arith, plain xs)

-- packets that follow packets add to them
pub more : (before ys : List Item) → has_end before ≡ false → has_end ys ≡ false → packets (before ++ ys) ≡ packets before ++ ys
more before ys h k = filter-append (λ x. not (is_end x)) before ys ∙ ap (λ (l : List Item). packets before ++ l) (plain ys k)

-- an item where there may be none, for the last item of a batch
abbrev pub no_item : Item
no_item = record { token = 0; length = 0 }

abbrev pub last_of : List Item → ℕ → Item
last_of items count = slice_index_or items (count - 1) no_item

-- An outlet looked at its ring, and then popped `count` items that it saw, at least one, into the start of `items`. `looked` is its
-- consumer between the two, and `new` its consumer afterwards.
pub record Batch (old : Outlet) (looked new : Consumer Item Global ItemOrder) (items : List Item) (count : ℕ) : Type 0 where
  pub some : 0 < count
  pub few : count ≤ length items
  pub allowed : Allowed MayFollow (popped old) (take count items)
  pub received : received new ≡ popped old ++ take count items
  pub saw : IsPrefix (seen old) (known_items looked)
  pub known : IsPrefix (known_items looked) (take count items ++ known_items new)
  pub halves : (i : Inlet) → AreHalves i old → IsPair i.producer looked
  pub ring : SameConsumer looked new

module _ {old : Outlet} {looked new : Consumer Item Global ItemOrder} {items : List Item} {count : ℕ} (b : Batch old looked new items count) where
  split : take count items ≡ take (count - 1) items ++ last_of items count ∷ []
  split = let some = b.some in let few = b.few in let e : count - 1 + 1 ≡ count = omega arith in subst (λ (m : ℕ). take m items ≡ take (count - 1) items ++ last_of items count ∷ []) e (take_more items (count - 1) no_item (omega arith))

  none_yet : has_end (popped old ++ take (count - 1) items) ≡ false
  none_yet = none_before (popped old) (take (count - 1) items) [] (last_of items count) (subst (Allowed MayFollow (popped old)) split b.allowed)

  -- none but the last item is the end
  pub none_among : (has_end (popped old) ≡ false) × (has_end (take (count - 1) items) ≡ false)
  none_among = grind (arith, none_yet, list_any-append is_end (popped old) (take (count - 1) items))

  pub front_allowed : Allowed MayFollow (popped old) (take (count - 1) items)
  front_allowed = first_part MayFollow (popped old) (take (count - 1) items) (last_of items count ∷ []) (subst (Allowed MayFollow (popped old)) split b.allowed)

  -- where the last item is the end, the others are the packets
  pub ended : (last_of items count).length ≡ 0 → packets (received new) ≡ taken old ++ take (count - 1) items
  ended zero_length = ap packets (b.received ∙ ap (λ (l : List Item). popped old ++ l) split) ∙ (filter-append (λ x. not (is_end x)) (popped old) (take (count - 1) items ++ last_of items count ∷ []) ∙ ap (λ (l : List Item). taken old ++ l) kept)
    where
      kept : packets (take (count - 1) items ++ last_of items count ∷ []) ≡ take (count - 1) items
      kept = grind (arith, filter-append (λ x. not (is_end x)) (take (count - 1) items) (last_of items count ∷ []), plain (take (count - 1) items) none_among.1, append-nil (take (count - 1) items))

  -- where it is not, all are packets
  pub goes_on : ((last_of items count).length ≡ 0 → ⊥) → (has_end (received new) ≡ false) × (has_end (take count items) ≡ false) × (packets (received new) ≡ taken old ++ take count items)
  goes_on some_length = (ap has_end b.received ∙ all, among, ap packets b.received ∙ more (popped old) (take count items) none_among.0 among)
    where
      last_no : has_end (last_of items count ∷ []) ≡ false
      last_no = grind (arith, some_length)

      among : has_end (take count items) ≡ false
      among = ap has_end split ∙ grind (arith, list_any-append is_end (take (count - 1) items) (last_of items count ∷ []), none_among.1, last_no)

      all : has_end (popped old ++ take count items) ≡ false
      all = grind (arith, list_any-append is_end (popped old) (take count items), none_among.0, among)

  pub at_end : (last_of items count).length ≡ 0 → has_end (received new) ≡ true
  at_end zero_length = ap has_end (b.received ∙ ap (λ (l : List Item). popped old ++ l) split) ∙ grind (arith, zero_length, list_any-append is_end (popped old) (take (count - 1) items ++ last_of items count ∷ []), list_any-append is_end (take (count - 1) items) (last_of items count ∷ []))

  pub keeps : IsPrefix (popped old) (received new)
  keeps = (take count items, sym b.received)

  -- what was popped and is seen
  pub grows : IsPrefix (popped old ++ seen old) (received new ++ known_items new)
  grows = known_grows (popped old) (seen old) (known_items looked) (take count items) (known_items new) (received new) b.saw b.known b.received

  -- where all that was seen by then is in the batch, so is what was seen before
  pub all_seen : count ≡ length (known_items looked) → IsPrefix (seen old) (take count items)
  all_seen all = all_taken (seen old) (known_items looked) (take count items) (known_items new) b.saw b.known (length-take-le count items b.few ∙ all)

  pub in_order : Allowed MayFollow [] (popped old) → Allowed MayFollow [] (received new)
  in_order = still_allowed (popped old) (take count items) (received new) b.received b.allowed

  pub one_ring : (i : Inlet) → AreHalves i old → IsPair i.producer new
  one_ring i h = taker_stays i.producer looked new b.ring (b.halves i h)
