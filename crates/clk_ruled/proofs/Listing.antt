-- The packets that a queue accepted, listed one by one from their lengths and from the packets that it refused.
use Rattle.std.proofs.Common.{◌≡◌, ℕ, suc, ◌+◌, ◌-◌, ◌<◌, ◌≤◌, inl, inr, List, [], ◌∷◌, ◌++◌, length, map, take, drop, get_or, append_assoc, append-nil, refl, sym, ap, ◌∙◌, subst, arith}
use Rattle.std.proofs.lemmas.List.{length-append, length-map, take_all}
use Rattle.std.specs.List.{AllByRecursion}
use Rattle.clk_packet.specs.Dealt.{AreNumbered, IsDealt}
use Rattle.clk_packet.specs.declared.packet.Packet.{Packet}
use Rattle.clk_ruled.specs.Queue.{IsShared}
use Rattle.clk_ruled.specs.inside.Parts.{HaveLengths, IsFirst, IsNotFirst}

-- the first packet, and those that come after it
pub first-is : (number : ℕ) (packets : List Packet) (p : Packet) → 1 ≤ length packets → p ≡ get_or packets 0 p → p.number ≡ number → IsFirst number packets (take (length packets - 1) (drop 1 packets))
first-is number [] p some is same = absurd (omega (arith, some))
first-is number (q ∷ packets) p some is same =
    record { first = q; are = ap (λ l. q ∷ l) (sym (take_all (length (q ∷ packets) - 1) packets (omega arith))); number_is = ap (λ (r : Packet). r.number) (sym is) ∙ same }

-- Packets of numbers below this one are listed. The accepted ones among the others are left, and `rest` has the refused ones.
pub record IsListed (sender next number : ℕ) (all packets rest : List Packet) : Type 0 where
  pub left : List Packet
  pub offered : List Packet
  pub all_are : all ≡ packets ++ left
  pub numbers : AreNumbered sender number offered
  pub dealt : IsDealt offered left rest
  pub count : number + length offered ≡ next

pub none-listed : (sender next : ℕ) (all refused : List Packet) → IsShared sender next all refused → IsListed sender next 0 all [] refused
none-listed sender next all refused h = record { left = all; offered = h.offered; all_are = refl; numbers = h.numbers; dealt = h.dealt; count = (let is = h.count in omega (arith, is)) }

-- Packets dealt to the second list of those from a number on have no smaller number.
not-below : (s m n : ℕ) (packets a b : List Packet) → m ≤ n → AreNumbered s n packets → IsDealt packets a b → AllByRecursion (λ (p : Packet). m ≤ p.number) b
not-below s m n [] a b few k h = subst (AllByRecursion (λ (p : Packet). m ≤ p.number)) (sym h.1) tt
not-below s m n (q ∷ packets) a b few k (inl x) = not-below s m (suc n) packets x.0 b (omega (arith, few)) k.2 x.2
not-below s m n (q ∷ packets) a b few k (inr x) =
    subst (AllByRecursion (λ (p : Packet). m ≤ p.number)) (sym x.1) (subst (λ i. m ≤ i) (sym k.1) few, not-below s m (suc n) packets a x.0 (omega (arith, few)) k.2 x.2)

tails-same : (p q : Packet) (ps qs : List Packet) → p ∷ ps ≡ q ∷ qs → ps ≡ qs
tails-same p q ps qs e = ap tail e
  where
    tail : List Packet → List Packet
    tail [] = []
    tail (x ∷ xs) = xs

-- The next packet was refused, if the first of those has its number.
pub refused-next : (sender next number : ℕ) (all packets rest later : List Packet) → number < next → IsFirst number rest later → IsListed sender next number all packets rest → IsListed sender next (number + 1) all packets later
refused-next sender next number all packets rest later lt first h = by_offered h.offered h.numbers h.dealt h.count
  where
    by_offered : (offered : List Packet) → AreNumbered sender number offered → IsDealt offered h.left rest → number + length offered ≡ next → IsListed sender next (number + 1) all packets later
    by_offered [] k d many = absurd (omega (arith, lt, many))
    by_offered (p ∷ more) k (inl x) many =
        let above = subst (AllByRecursion (λ (q : Packet). suc number ≤ q.number)) first.are (not-below sender (suc number) (suc number) more x.0 rest (omega arith) k.2 x.2) in
        absurd (let low = above.0 in let is = first.number_is in omega (arith, low, is))
    by_offered (p ∷ more) k (inr x) many =
        record {
          left = h.left;
          offered = more;
          all_are = h.all_are;
          numbers = subst (λ n. AreNumbered sender n more) (omega arith) k.2;
          dealt = subst (IsDealt more h.left) (tails-same p first.first x.0 later (sym x.1 ∙ first.are)) x.2;
          count = omega (arith, many);
        }

-- What is known of the next packet, where it was accepted.
pub record IsNext (sender next number : ℕ) (all packets rest : List Packet) : Type 0 where
  pub packet : Packet
  pub more : List Packet
  pub all_are : all ≡ packets ++ packet ∷ more
  pub own : packet.sender ≡ sender
  pub number_is : packet.number ≡ number
  pub listed : IsListed sender next (number + 1) all (packets ++ packet ∷ []) rest

-- It was accepted otherwise.
pub accepted-next : (sender next number : ℕ) (all packets rest : List Packet) → number < next → IsNotFirst number rest → IsListed sender next number all packets rest → IsNext sender next number all packets rest
accepted-next sender next number all packets rest lt other h = by_offered h.offered h.numbers h.dealt h.count
  where
    by_offered : (offered : List Packet) → AreNumbered sender number offered → IsDealt offered h.left rest → number + length offered ≡ next → IsNext sender next number all packets rest
    by_offered [] k d many = absurd (omega (arith, lt, many))
    by_offered (p ∷ more) k (inl x) many =
        let are = h.all_are ∙ ap (λ l. packets ++ l) x.1 in record {
          packet = p;
          more = x.0;
          all_are = are;
          own = k.0;
          number_is = k.1;
          listed = record {
            left = x.0;
            offered = more;
            all_are = are ∙ sym (append_assoc packets (p ∷ []) x.0);
            numbers = subst (λ n. AreNumbered sender n more) (omega arith) k.2;
            dealt = x.2;
            count = omega (arith, many);
          };
        }
    by_offered (p ∷ more) k (inr x) many = absurd (other p x.0 x.1 k.1)

-- Its length stands at the place behind those that are listed.
get-behind : (packets more : List Packet) (p : Packet) (d : ℕ) → get_or (map (λ (q : Packet). q.length) (packets ++ p ∷ more)) (length packets) d ≡ p.length
get-behind [] more p d = refl
get-behind (q ∷ packets) more p d = get-behind packets more p d

pub length-next : (all packets more : List Packet) (p : Packet) (lengths : List ℕ) (d : ℕ) → HaveLengths all lengths → all ≡ packets ++ p ∷ more → get_or lengths (length packets) d ≡ p.length
length-next all packets more p lengths d have are = ap (λ l. get_or l (length packets) d) (sym have ∙ ap (map (λ (q : Packet). q.length)) are) ∙ get-behind packets more p d

pub place-within : (all packets more : List Packet) (p : Packet) (lengths : List ℕ) → HaveLengths all lengths → all ≡ packets ++ p ∷ more → length packets < length lengths
place-within all packets more p lengths have are =
    let many = ap length have in
    let same = length-map all (λ (q : Packet). q.length) in
    let both = ap length are ∙ length-append packets (p ∷ more) in omega (arith, many, same, both)

-- All are listed once the numbers are at an end.
pub all-listed : (sender next number : ℕ) (all packets rest : List Packet) → next ≤ number → IsListed sender next number all packets rest → packets ≡ all
all-listed sender next number all packets rest end h = by_offered h.offered h.dealt h.count
  where
    by_offered : (offered : List Packet) → IsDealt offered h.left rest → number + length offered ≡ next → packets ≡ all
    by_offered [] d many = sym (h.all_are ∙ ap (λ l. packets ++ l) d.0 ∙ append-nil packets)
    by_offered (p ∷ more) d many = absurd (omega (arith, end, many))
