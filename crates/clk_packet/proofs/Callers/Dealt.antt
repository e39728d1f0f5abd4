-- Packets that are dealt to two lists, and packets that are numbered.
use Rattle.std.proofs.Common.{◌≡◌, ℕ, suc, ◌<◌, inl, inr, ◌+◌, Bool, true, false, if◌then◌else◌, List, [], ◌∷◌, ◌++◌, length, filter, refl, sym, ap, ◌∙◌, subst, arith}
use Rattle.std.specs.List.{AllByRecursion}
use Rattle.clk_packet.specs.declared.packet.Packet.{Packet}
use Rattle.clk_packet.specs.Dealt.{AreNumbered, IsDealt, packet_numbers}
use Rattle.clk_packet.specs.Lists.{AreRising}

-- both lists have as many in all
pub dealt-length : (packets a b : List Packet) → IsDealt packets a b → length packets ≡ length a + length b
dealt-length [] a b h = let none = ap length h.0 in let nor = ap length h.1 in omega (arith, none, nor)
dealt-length (p ∷ packets) a b (inl x) = let one = ap length x.1 in let rest = dealt-length packets x.0 b x.2 in omega (arith, one, rest)
dealt-length (p ∷ packets) a b (inr x) = let one = ap length x.1 in let rest = dealt-length packets a x.0 x.2 in omega (arith, one, rest)

-- where the first list is empty, the second has all, in order
pub dealt-none : (packets b : List Packet) → IsDealt packets [] b → b ≡ packets
dealt-none [] b h = h.1
dealt-none (p ∷ packets) b (inl x) = absurd (omega (arith, ap length x.1))
dealt-none (p ∷ packets) b (inr x) = x.1 ∙ ap (λ l. p ∷ l) (dealt-none packets x.0 x.2)

-- packets that pass a test are dealt to those of the lists that pass it
pub dealt-kept : (test : Packet → Bool) (packets a b : List Packet) → IsDealt packets a b → IsDealt (filter test packets) (filter test a) (filter test b)
dealt-kept test [] a b h = (ap (filter test) h.0, ap (filter test) h.1)
dealt-kept test (p ∷ packets) a b (inl x) =
    subst (λ l. IsDealt (filter test (p ∷ packets)) (filter test l) (filter test b)) (sym x.1) (by_test (test p) (dealt-kept test packets x.0 b x.2))
  where
    by_test : (t : Bool) → IsDealt (filter test packets) (filter test x.0) (filter test b)
        → IsDealt (if t then p ∷ filter test packets else filter test packets) (if t then p ∷ filter test x.0 else filter test x.0) (filter test b)
    by_test true rest = inl (filter test x.0, refl, rest)
    by_test false rest = rest
dealt-kept test (p ∷ packets) a b (inr x) =
    subst (λ l. IsDealt (filter test (p ∷ packets)) (filter test a) (filter test l)) (sym x.1) (by_test (test p) (dealt-kept test packets a x.0 x.2))
  where
    by_test : (t : Bool) → IsDealt (filter test packets) (filter test a) (filter test x.0)
        → IsDealt (if t then p ∷ filter test packets else filter test packets) (filter test a) (if t then p ∷ filter test x.0 else filter test x.0)
    by_test true rest = inr (filter test x.0, refl, rest)
    by_test false rest = rest

-- all packets may go to the first list
pub dealt-all : (packets : List Packet) → IsDealt packets packets []
dealt-all [] = (refl, refl)
dealt-all (p ∷ packets) = inl (packets, refl, dealt-all packets)

-- one packet more goes to the first list, or to the second
pub dealt-first : (packets a b : List Packet) (p : Packet) → IsDealt packets a b → IsDealt (packets ++ p ∷ []) (a ++ p ∷ []) b
dealt-first [] a b p h = inl ([], ap (λ l. l ++ p ∷ []) h.0, (refl, h.1))
dealt-first (q ∷ packets) a b p (inl x) = inl (x.0 ++ p ∷ [], ap (λ l. l ++ p ∷ []) x.1, dealt-first packets x.0 b p x.2)
dealt-first (q ∷ packets) a b p (inr x) = inr (x.0, x.1, dealt-first packets a x.0 p x.2)

pub dealt-second : (packets a b : List Packet) (p : Packet) → IsDealt packets a b → IsDealt (packets ++ p ∷ []) a (b ++ p ∷ [])
dealt-second [] a b p h = inr ([], ap (λ l. l ++ p ∷ []) h.1, (h.0, refl))
dealt-second (q ∷ packets) a b p (inl x) = inl (x.0, x.1, dealt-second packets x.0 b p x.2)
dealt-second (q ∷ packets) a b p (inr x) = inr (x.0 ++ p ∷ [], ap (λ l. l ++ p ∷ []) x.1, dealt-second packets a x.0 p x.2)

-- one packet more is numbered
pub numbered-more : (s n : ℕ) (packets : List Packet) (p : Packet) → p.sender ≡ s → p.number ≡ n + length packets → AreNumbered s n packets → AreNumbered s n (packets ++ p ∷ [])
numbered-more s n [] p own e h = (own, omega (arith, e), tt)
numbered-more s n (q ∷ packets) p own e h = (h.0, h.1, numbered-more s (suc n) packets p own (omega (arith, e)) h.2)

-- Numbers rise in each list that numbered packets are dealt to: what is dealt of packets after number n is above it.
dealt-above : (s m n : ℕ) (packets a b : List Packet) → m < n → AreNumbered s n packets → IsDealt packets a b → AllByRecursion (λ k. m < k) (packet_numbers a)
dealt-above s m n [] a b lt k h = subst (λ l. AllByRecursion (λ k. m < k) (packet_numbers l)) (sym h.0) tt
dealt-above s m n (q ∷ packets) a b lt k (inl x) =
    subst (λ l. AllByRecursion (λ k. m < k) (packet_numbers l)) (sym x.1)
    (subst (λ k. m < k) (sym k.1) lt, dealt-above s m (suc n) packets x.0 b (omega (arith, lt)) k.2 x.2)
dealt-above s m n (q ∷ packets) a b lt k (inr x) = dealt-above s m (suc n) packets a x.0 (omega (arith, lt)) k.2 x.2

pub dealt-rise : (s n : ℕ) (packets a b : List Packet) → AreNumbered s n packets → IsDealt packets a b → AreRising (packet_numbers a)
dealt-rise s n [] a b k h = subst (λ l. AreRising (packet_numbers l)) (sym h.0) tt
dealt-rise s n (q ∷ packets) a b k (inl x) =
    subst (λ l. AreRising (packet_numbers l)) (sym x.1)
    (dealt-above s q.number (suc n) packets x.0 b (let is = k.1 in omega (arith, is)) k.2 x.2, dealt-rise s (suc n) packets x.0 b k.2 x.2)
dealt-rise s n (q ∷ packets) a b k (inr x) = dealt-rise s (suc n) packets a x.0 k.2 x.2

pub numbered-rise : (s n : ℕ) (packets : List Packet) → AreNumbered s n packets → AreRising (packet_numbers packets)
numbered-rise s n packets h = dealt-rise s n packets packets [] h (dealt-all packets)
