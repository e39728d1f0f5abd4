-- The first sender that a plan lacks, found from 0 on.
use Rattle.std.proofs.Common.{◌≡◌, ◌&&◌, ℕ, ◌+◌, ◌<◌, zero, suc, Bool, true, false, not, nat_lt, List, length, find, cond, Some, None, refl, sym, ap, subst, ◌∙◌, zero-add, arith}
use Rattle.std.specs.List.{range_with_len}
use Rattle.std.proofs.lemmas.Bool.{ltb-true, lt-ltb}
use Rattle.clk_packet.specs.declared.packet.Packet.{Packet}
use Rattle.clk_packet.specs.declared.limits.TheConstants.{MAX_SENDER}
use Rattle.clk_packet.specs.Trace.{sent_by}
use Rattle.clk_packet.specs.Lists.{stands_in}
use Rattle.clk_gate.specs.Known.{first_unknown}

-- Each sender with a number below `n` that sends something is one of `senders`.
abbrev pub AreKnownBelow : List ℕ → List (List Packet) → ℕ → Type 0
AreKnownBelow senders traces n = (s : ℕ) → s < n → 0 < length (sent_by traces s) → stands_in s senders ≡ true

find-next : (test : ℕ → Bool) (first n : ℕ) → test first ≡ false → find test (range_with_len first (suc n)) ≡ find test (range_with_len (first + 1) n)
find-next test first n e = ap (λ b. cond b (Some first) (find test (range_with_len (first + 1) n))) e

-- none of these numbers passes the test
none-found : (test : ℕ → Bool) (first n : ℕ) → ((k : ℕ) → k < n → test (first + k) ≡ false) → find test (range_with_len first n) ≡ None
none-found test first zero h = refl
none-found test first (suc n) h =
    find-next test first n (subst (λ s. test s ≡ false) (let e : first + 0 ≡ first = omega arith in e) (h 0 (omega arith)))
    ∙ none-found test (first + 1) n (λ k l. subst (λ s. test s ≡ false) (let e : first + suc k ≡ first + 1 + k = omega arith in e) (h (suc k) (omega (arith, l))))

-- the one `k` further on passes the test, and none before it does
one-found : (test : ℕ → Bool) (k first n : ℕ) → k < n → test (first + k) ≡ true → ((j : ℕ) → j < k → test (first + j) ≡ false) → find test (range_with_len first n) ≡ Some (first + k)
one-found test k first zero l is before = absurd (omega (arith, l))
one-found test zero first (suc n) l is before =
    let here : first + 0 ≡ first = omega arith in
    ap (λ b. cond b (Some first) (find test (range_with_len (first + 1) n))) (subst (λ s. test s ≡ true) here is) ∙ ap Some (sym here)
one-found test (suc k) first (suc n) l is before =
    let next : first + suc k ≡ first + 1 + k = omega arith in
    find-next test first n (subst (λ s. test s ≡ false) (let e : first + 0 ≡ first = omega arith in e) (before 0 (omega arith)))
    ∙ one-found test k (first + 1) n (omega (arith, l)) (subst (λ s. test s ≡ true) next is) (λ j m. subst (λ s. test s ≡ false) (let e : first + suc j ≡ first + 1 + j = omega arith in e) (before (suc j) (omega (arith, m))))
    ∙ ap Some (sym next)

-- a sender that sends something only if it is one of the plan's
known-test : (n : ℕ) (stands : Bool) → (0 < n → stands ≡ true) → (nat_lt 0 n && not stands) ≡ false
known-test n stands h = by_test (nat_lt 0 n) refl
  where
    by_test : (b : Bool) → nat_lt 0 n ≡ b → (b && not stands) ≡ false
    by_test true e = ap not (h (ltb-true 0 n e))
    by_test false e = refl

-- whether a sender sends something and is none of `senders`
abbrev is_unknown : List ℕ → List (List Packet) → ℕ → Bool
is_unknown senders traces s = nat_lt 0 (length (sent_by traces s)) && not (stands_in s senders)

known-so : (senders : List ℕ) (traces : List (List Packet)) (n k : ℕ) → AreKnownBelow senders traces n → k < n → is_unknown senders traces (0 + k) ≡ false
known-so senders traces n k h l = known-test (length (sent_by traces (0 + k))) (stands_in (0 + k) senders) (h (0 + k) (omega (arith, l)))

pub known-none : (senders : List ℕ) (traces : List (List Packet)) → AreKnownBelow senders traces (suc MAX_SENDER) → first_unknown senders traces ≡ None
unfolding first_unknown
known-none senders traces h = none-found (is_unknown senders traces) 0 (suc MAX_SENDER) (λ k l. known-so senders traces (suc MAX_SENDER) k h l)

pub unknown-some : (senders : List ℕ) (traces : List (List Packet)) (s : ℕ) → s < suc MAX_SENDER → 0 < length (sent_by traces s) → stands_in s senders ≡ false → AreKnownBelow senders traces s → first_unknown senders traces ≡ Some s
unfolding first_unknown
unknown-some senders traces s within sends unknown h =
    one-found (is_unknown senders traces) s 0 (suc MAX_SENDER) within
    (ap (is_unknown senders traces) (zero-add s) ∙ (λ i. lt-ltb 0 (length (sent_by traces s)) sends i && not (unknown i)))
    (λ j l. known-so senders traces s j h l)
    ∙ ap Some (zero-add s)
