-- Totals of packets, counted one by one.
use Rattle.std.proofs.Common.{◌≡◌, ◌≢◌, inl, inr, ℕ, ◌+◌, ◌-◌, ◌*◌, ◌^◌, ◌<◌, ◌≤◌, ◌==◌, Bool, true, false, List, [], ◌∷◌, ◌++◌, All, Vec, length, take, drop, set, get_or, slice_get, append_assoc, append-nil, Some, refl, sym, ap, ◌∙◌, subst, arith}
use Rattle.std.specs.declared.alloc.Global.{Global}
use Rattle.std.proofs.lemmas.Bool.{false≢true}
use Rattle.std.proofs.lemmas.Bool.Decides.{nat_tests}
use Rattle.std.proofs.lemmas.List.{length-append, length-drop, length-set, get_or-set_same, get_or-set_other, take_all, take_more}
use Rattle.std.proofs.lemmas.List.Elements.{All-same, All-set, All-take, filter-append}
use Rattle.std.proofs.lemmas.Option.{slice_get-get_or, get_or_from_slice_get}
use Rattle.clk_packet.specs.declared.packet.Packet.{Packet}
use Rattle.clk_packet.specs.declared.counts.Total.{Total}
use Rattle.clk_packet.specs.declared.tally.Tally.{Tally}
use Rattle.clk_report.specs.Devices.{all_emitted}
use Rattle.clk_packet.specs.Dealt.{IsDealt}
use Rattle.clk_packet.specs.Lists.{of_sender}
use Rattle.clk_packet.specs.Counts.{bytes_of, total_of}
use Rattle.clk_packet.proofs.Callers.Counts.{bytes-few, bytes-append}
use Rattle.clk_packet.proofs.Callers.Dealt.{dealt-length}
use Rattle.clk_report.specs.inside.Totals.{AreTotals, AccountsBeyond, TellsBelow, with_packet, HasRoom}

pub same-total : (t u : Total ℕ) → t.packets ≡ u.packets → t.bytes ≡ u.bytes → t ≡ u
same-total t u e f = λ i. record { packets = e i; bytes = f i }

-- one packet more is counted
pub total-more : (packets : List Packet) (p : Packet) → total_of (packets ++ p ∷ []) ≡ with_packet p (total_of packets)
total-more packets p =
    let many = length-append packets (p ∷ []) in
    let long = bytes-append packets (p ∷ []) in
    same-total (total_of (packets ++ p ∷ [])) (with_packet p (total_of packets)) (omega (arith, many)) (omega (arith, long))

-- a packet is one of its sender's, and none of another's
packets-mine : (s : ℕ) (packets : List Packet) (p : Packet) → (p.sender == s) ≡ true → of_sender s (packets ++ p ∷ []) ≡ of_sender s packets ++ p ∷ []
packets-mine s packets p mine =
    let one : of_sender s (p ∷ []) ≡ p ∷ [] = rw mine refl in
    filter-append (λ (q : Packet). q.sender == s) packets (p ∷ []) ∙ ap (λ l. of_sender s packets ++ l) one

packets-others : (s : ℕ) (packets : List Packet) (p : Packet) → (p.sender == s) ≡ false → of_sender s (packets ++ p ∷ []) ≡ of_sender s packets
packets-others s packets p other =
    let none : of_sender s (p ∷ []) ≡ [] = rw other refl in
    filter-append (λ (q : Packet). q.sender == s) packets (p ∷ []) ∙ ap (λ l. of_sender s packets ++ l) none ∙ append-nil (of_sender s packets)

-- one packet more is counted at its sender
AreTotals-more : (packets : List Packet) (p : Packet) (totals : List (Total ℕ)) (t d : Total ℕ) → p.sender < length totals → AreTotals packets totals → t ≡ with_packet p (get_or totals p.sender d)
    → AreTotals (packets ++ p ∷ []) (set totals p.sender t)
AreTotals-more packets p totals t d inside are is =
    record { each = λ s within. by_test s (subst (λ n. s < n) (length-set totals p.sender t) within) (p.sender == s) refl }
  where
    by_test : (s : ℕ) → s < length totals → (b : Bool) → (p.sender == s) ≡ b → slice_get (set totals p.sender t) s ≡ Some (total_of (of_sender s (packets ++ p ∷ [])))
    by_test s within true e =
        let same : p.sender ≡ s = grind (arith, nat_tests) in
        let here : get_or (set totals p.sender t) s d ≡ t = ap (λ n. get_or (set totals p.sender t) n d) (sym same) ∙ get_or-set_same totals p.sender t d inside in
        let before : get_or totals p.sender d ≡ total_of (of_sender s packets) = ap (λ n. get_or totals n d) same ∙ get_or_from_slice_get totals s _ d (are.each s within) in
        let counted : t ≡ total_of (of_sender s (packets ++ p ∷ [])) = is ∙ ap (with_packet p) before ∙ sym (total-more (of_sender s packets) p) ∙ ap total_of (sym (packets-mine s packets p e)) in
        slice_get-get_or (set totals p.sender t) s d (subst (λ n. s < n) (sym (length-set totals p.sender t)) within) ∙ ap Some (here ∙ counted)
    by_test s within false e =
        let differs : s ≢ p.sender = λ same. let mine : (p.sender == s) ≡ true = grind (arith, nat_tests) in absurd (false≢true (sym e ∙ mine)) in
        slice_get-get_or (set totals p.sender t) s d (subst (λ n. s < n) (sym (length-set totals p.sender t)) within)
        ∙ ap Some (get_or-set_other totals p.sender s t d differs ∙ get_or_from_slice_get totals s _ d (are.each s within) ∙ ap total_of (sym (packets-others s packets p e)))

-- one packet of a sender beyond the table is left out
AreTotals-beyond : (packets : List Packet) (p : Packet) (totals : List (Total ℕ)) → length totals ≤ p.sender → AreTotals packets totals → AreTotals (packets ++ p ∷ []) totals
AreTotals-beyond packets p totals beyond are =
    record {
      each = λ s within.
          let other : (p.sender == s) ≡ false = grind (arith, nat_tests) in
          are.each s within ∙ ap (λ l. Some (total_of l)) (sym (packets-others s packets p other));
    }

-- room for one less is left once one is counted, or left out
HasRoom-less : (more : ℕ) (t : Total ℕ) → HasRoom (more + 1) t → HasRoom more t
HasRoom-less more t room = let packets = room.packets in let bytes = room.bytes in record { packets = omega (arith, packets); bytes = omega (arith, bytes) }

HasRoom-counted : (more : ℕ) (p : Packet) (t u : Total ℕ) → u ≡ with_packet p t → HasRoom (more + 1) t → HasRoom more u
HasRoom-counted more p t u is room =
    let packets = room.packets in
    let bytes = room.bytes in
    let within = p.is_within in
    subst (HasRoom more) (sym is) (record { packets = omega (arith, packets); bytes = omega (arith, bytes, within) })

-- What is counted of the packets before a place, after any others, with room for those from the place on.
pub record IsCountedTo (old new : List (Total ℕ)) (packets : List Packet) (i : ℕ) : Type 0 where
  pub counted : (before : List Packet) → AreTotals before old → AreTotals (before ++ take i packets) new
  pub room : All (HasRoom (length (drop i packets))) new

pub IsCountedTo-none : (totals : List (Total ℕ)) (packets : List Packet) → All (HasRoom (length packets)) totals → IsCountedTo totals totals packets 0
IsCountedTo-none totals packets room = record { counted = λ before are. subst (λ l. AreTotals l totals) (sym (append-nil before)) are; room = room }

-- there is room to count the next one
pub room-next : (old new : List (Total ℕ)) (packets : List Packet) (i n : ℕ) (d : Total ℕ) → i < length packets → n < length new → IsCountedTo old new packets i → HasRoom 1 (get_or new n d)
room-next old new packets i n d within inside so_far =
    let room = so_far.room n d inside in
    let left = length-drop i packets in
    let count = room.packets in
    let bytes = room.bytes in
    record { packets = omega (arith, left, count); bytes = omega (arith, left, bytes) }

pub IsCountedTo-more : (old new : List (Total ℕ)) (packets : List Packet) (i : ℕ) (p : Packet) (n : ℕ) (d t : Total ℕ) → i < length packets → p ≡ get_or packets i p → n ≡ p.sender → n < length new
    → IsCountedTo old new packets i → t ≡ with_packet p (get_or new n d) → IsCountedTo old (set new n t) packets (i + 1)
IsCountedTo-more old new packets i p n d t within is at inside so_far more =
    let next : take (i + 1) packets ≡ take i packets ++ p ∷ [] = take_more packets i p within ∙ ap (λ q. take i packets ++ q ∷ []) (sym is) in
    let left : length (drop i packets) ≡ length (drop (i + 1) packets) + 1 = omega (arith, length-drop i packets, length-drop (i + 1) packets) in
    record {
      counted = λ before are.
          subst (λ l. AreTotals l (set new n t)) (append_assoc before (take i packets) (p ∷ []) ∙ ap (λ l. before ++ l) (sym next))
          (subst (λ m. AreTotals ((before ++ take i packets) ++ p ∷ []) (set new m t)) (sym at)
          (AreTotals-more (before ++ take i packets) p new t d (subst (λ m. m < length new) at inside) (so_far.counted before are) (more ∙ ap (λ m. with_packet p (get_or new m d)) at)));
      room =
          All-set (HasRoom (length (drop (i + 1) packets))) new n t
          (HasRoom-counted (length (drop (i + 1) packets)) p (get_or new n d) t more (subst (λ m. HasRoom m (get_or new n d)) left (so_far.room n d inside)))
          (λ s u within. HasRoom-less (length (drop (i + 1) packets)) (get_or new s u) (subst (λ j. HasRoom j (get_or new s u)) left (so_far.room s u within)));
    }

pub IsCountedTo-skip : (old new : List (Total ℕ)) (packets : List Packet) (i : ℕ) (p : Packet) (n : ℕ) → i < length packets → p ≡ get_or packets i p → n ≡ p.sender → length new ≤ n
    → IsCountedTo old new packets i → IsCountedTo old new packets (i + 1)
IsCountedTo-skip old new packets i p n within is at beyond so_far =
    let next : take (i + 1) packets ≡ take i packets ++ p ∷ [] = take_more packets i p within ∙ ap (λ q. take i packets ++ q ∷ []) (sym is) in
    let left : length (drop i packets) ≡ length (drop (i + 1) packets) + 1 = omega (arith, length-drop i packets, length-drop (i + 1) packets) in
    record {
      counted = λ before are.
          subst (λ l. AreTotals l new) (append_assoc before (take i packets) (p ∷ []) ∙ ap (λ l. before ++ l) (sym next))
          (AreTotals-beyond (before ++ take i packets) p new (subst (λ m. length new ≤ m) at beyond) (so_far.counted before are));
      room = λ s u inside. HasRoom-less (length (drop (i + 1) packets)) (get_or new s u) (subst (λ j. HasRoom j (get_or new s u)) left (so_far.room s u inside));
    }

pub all-counted : (old new : List (Total ℕ)) (packets : List Packet) (i : ℕ) → length packets ≤ i → IsCountedTo old new packets i → (before : List Packet) → AreTotals before old → AreTotals (before ++ packets) new
all-counted old new packets i all so_far before are = subst (λ l. AreTotals (before ++ l) new) (take_all i packets all) (so_far.counted before are)

packets-few : (s : ℕ) (packets : List Packet) → length (of_sender s packets) ≤ length packets
packets-few s [] = omega arith
packets-few s (p ∷ packets) = by_test (p.sender == s) refl (packets-few s packets)
  where
    by_test : (b : Bool) → (p.sender == s) ≡ b → length (of_sender s packets) ≤ length packets → length (of_sender s (p ∷ packets)) ≤ length (p ∷ packets)
    by_test true e few = rw e (omega (arith, few))
    by_test false e few = rw e (omega (arith, few))

-- the packets of the devices before a place are counted, and so few that there is room for those of one more
pub record AreCountedTo (emitted : List (Vec Packet Global)) (totals : List (Total ℕ)) (i : ℕ) : Type 0 where
  pub are : AreTotals (all_emitted (take i emitted)) totals
  pub few : length (all_emitted (take i emitted)) ≤ 2 ^ 64 * i

pub AreCountedTo-room : (emitted : List (Vec Packet Global)) (totals : List (Total ℕ)) (i more : ℕ) → i ≤ 65535 → more < 2 ^ 64 → AreCountedTo emitted totals i → All (HasRoom more) totals
AreCountedTo-room emitted totals i more below short so_far s d inside =
    let packets = of_sender s (all_emitted (take i emitted)) in
    let few = packets-few s (all_emitted (take i emitted)) in
    let all = so_far.few in
    let bytes = bytes-few packets in
    subst (HasRoom more) (sym (get_or_from_slice_get totals s (total_of packets) d (so_far.are.each s inside))) (record { packets = omega (arith, few, all); bytes = omega (arith, few, all, bytes) })

-- a table of these packets is one of any that are the same of each of its senders
told-below : (n : ℕ) (told emitted : List Packet) (totals : List (Total ℕ)) → length totals ≡ n → TellsBelow n told emitted → AreTotals told totals → AreTotals emitted totals
told-below n told emitted totals long same are =
    record { each = λ s within. are.each s within ∙ ap (λ l. Some (total_of l)) (same s (omega (arith, long, within))) }

-- So the table is one of these packets, and the tallies of a part account for those of senders beyond it.
pub part-counted : (n k : ℕ) (told emitted : List Packet) (totals : List (Total ℕ)) (rest part : List Tally) → length totals ≡ n → TellsBelow n told emitted → AreTotals told totals → All (AccountsBeyond n emitted) rest → part ≡ take k rest
    → AreTotals emitted totals × All (AccountsBeyond (length totals) emitted) part
part-counted n k told emitted totals rest part long same are accounts is_part = (
  told-below n told emitted totals long same are,
  subst (λ m. All (AccountsBeyond m emitted) part) (sym long) (All-same (AccountsBeyond n emitted) part (take k rest) is_part (All-take (AccountsBeyond n emitted) k rest accounts)),
)

dealt-bytes : (packets a b : List Packet) → IsDealt packets a b → bytes_of packets ≡ bytes_of a + bytes_of b
dealt-bytes [] a b h = let none = ap bytes_of h.0 in let nor = ap bytes_of h.1 in omega (arith, none, nor)
dealt-bytes (p ∷ packets) a b (inl x) = let one = ap bytes_of x.1 in let rest = dealt-bytes packets x.0 b x.2 in omega (arith, one, rest)
dealt-bytes (p ∷ packets) a b (inr x) = let one = ap bytes_of x.1 in let rest = dealt-bytes packets a x.0 x.2 in omega (arith, one, rest)

-- of packets that are dealt to two lists, the total of all less that of the first is that of the second
pub total-left : (packets a b : List Packet) (t : Total ℕ) → IsDealt packets a b → t.packets ≡ length packets - length a → t.bytes ≡ bytes_of packets - bytes_of a → t ≡ total_of b
total-left packets a b t dealt many long =
    let count = dealt-length packets a b dealt in
    let bytes = dealt-bytes packets a b dealt in
    same-total t (total_of b) (omega (arith, many, count)) (omega (arith, long, bytes))
