-- The tokens of all queues, one queue after another.
use Rattle.std.proofs.Common.{◌≡◌, ℕ, suc, ◌+◌, ◌++◌, ◌∷◌, [], List, length, Some, slice_get, refl, sym, subst, arith}
use Rattle.std.specs.List.{flat_map, range_with_len, AllZip}
use Rattle.std.proofs.lemmas.Option.{slice_get_within}
use Rattle.circular_buffer.specs.Buffer.{Buffer}
use Rattle.clk_packet.specs.declared.packet.Packet.{Packet}
use Rattle.clk_inlet.specs.declared.item.Item.{Item}
use Rattle.clk_router.specs.Course.{Course}
use Rattle.clk_live.specs.State.{IsTokenOf}
use Rattle.clk_live.specs.Reclaiming.{inside_at, all_inside}
use Rattle.clk_live.specs.inside.Buffers.{buffer_items}
use Rattle.clk_live.specs.inside.Kept.{IsKept}
use Rattle.clk_live.proofs.Lists.{member}

zip-join : {X Y : Type 0} (R : X → Y → Type 0) (xs us : List X) (ys vs : List Y) → AllZip R xs ys → AllZip R us vs → AllZip R (xs ++ us) (ys ++ vs)
zip-join R [] us [] vs h k = k
zip-join R [] us (y ∷ ys) vs h k = absurd h
zip-join R (x ∷ xs) us [] vs h k = absurd h
zip-join R (x ∷ xs) us (y ∷ ys) vs h k = (h.0, zip-join R xs us ys vs h.1 k)

zip-flat : (R : Packet → ℕ → Type 0) (f : ℕ → List Packet) (bs : List (Buffer ℕ)) (k : ℕ) → ((i : ℕ) (b : Buffer ℕ) → slice_get bs i ≡ Some b → AllZip R (f (k + i)) b.items)
    → AllZip R (flat_map f (range_with_len k (length bs))) (flat_map buffer_items bs)
zip-flat R f [] k each = tt
zip-flat R f (b ∷ bs) k each =
    zip-join R (f k) (flat_map f (range_with_len (k + 1) (length bs))) b.items (flat_map buffer_items bs) (let first = each 0 b refl in let here : k + 0 ≡ k = omega arith in subst (λ n. AllZip R (f n) b.items) here first)
    (zip-flat R f bs (k + 1) (λ i c at. let e : k + suc i ≡ k + 1 + i = omega arith in subst (λ n. AllZip R (f n) c.items) e (each (suc i) c at)))

pub all-tokens : (c : Course) (items : List (List Item)) (buffers : List (Buffer ℕ)) → IsKept c items buffers → AllZip (IsTokenOf c.setup items) (all_inside c) (flat_map buffer_items buffers)
all-tokens c items buffers kept =
    subst (λ n. AllZip (IsTokenOf c.setup items) (flat_map (λ q. inside_at c.setup c.events q (slice_get c.setup.queues q)) (range_with_len 0 n)) (flat_map buffer_items buffers)) kept.queues
    (zip-flat (IsTokenOf c.setup items) (λ q. inside_at c.setup c.events q (slice_get c.setup.queues q)) buffers 0 each)
  where
    each : (i : ℕ) (b : Buffer ℕ) → slice_get buffers i ≡ Some b → AllZip (IsTokenOf c.setup items) (inside_at c.setup c.events (0 + i) (slice_get c.setup.queues (0 + i))) b.items
    each i b at =
        let within = slice_get_within buffers i b at in
        let room = member c.setup.queues i (omega (arith, within, kept.queues)) in
        let e : i ≡ 0 + i = omega arith in
        subst (λ n. AllZip (IsTokenOf c.setup items) (inside_at c.setup c.events n (slice_get c.setup.queues n)) b.items) e
        (subst (λ o. AllZip (IsTokenOf c.setup items) (inside_at c.setup c.events i o) b.items) (sym room.1) (kept.tokens i room.0 b room.1 at).tokens)
