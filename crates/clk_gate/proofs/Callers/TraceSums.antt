-- What distinct senders send together is no more than the whole trace.
use Rattle.std.proofs.Common.{◌≡◌, ℕ, zero, suc, ◌+◌, ◌≤◌, ◌==◌, ◌||◌, Bool, true, false, true≢false, List, [], ◌∷◌, length, refl, sym, ap, ◌∙◌, arith, eq-eqb, ne_eqb}
use Rattle.std.proofs.lemmas.Bool.{eqb-true, eqb-false, or_parts}
use Rattle.clk_packet.specs.Trace.{sent_by, packets_in}
use Rattle.clk_packet.specs.declared.packet.Packet.{Packet}
use Rattle.clk_packet.specs.Lists.{stands_in, are_distinct}
use Rattle.clk_packet.proofs.Callers.Lists.{distinct-parts, distinct-more}
use Rattle.clk_gate.specs.Sent.{sent_in}

-- the senders that aren't 0, each less one
abbrev lessened : List ℕ → List ℕ
lessened [] = []
lessened (zero ∷ senders) = lessened senders
lessened (suc s ∷ senders) = s ∷ lessened senders

same-lessened : (t s : ℕ) → (t == s) ≡ (suc t == suc s)
same-lessened t s = by_test (t == s) refl
  where
    by_test : (b : Bool) → (t == s) ≡ b → b ≡ (suc t == suc s)
    by_test true e = sym (eq-eqb (suc t) (suc s) (ap suc (eqb-true t s e)))
    by_test false e = sym (ne_eqb (suc t) (suc s) (λ k. eqb-false t s e (omega (arith, k))))

has-lessened : (s : ℕ) (senders : List ℕ) → stands_in s (lessened senders) ≡ stands_in (suc s) senders
has-lessened s [] = refl
has-lessened s (zero ∷ senders) = has-lessened s senders ∙ ap (λ (b : Bool). b || stands_in (suc s) senders) (sym (ne_eqb 0 (suc s) (λ e. omega (arith, e))))
has-lessened s (suc t ∷ senders) = λ i. same-lessened t s i || has-lessened s senders i

apart-lessened : (senders : List ℕ) → are_distinct senders ≡ true → are_distinct (lessened senders) ≡ true
apart-lessened [] h = refl
apart-lessened (zero ∷ senders) h = apart-lessened senders (distinct-parts zero senders h).1
apart-lessened (suc s ∷ senders) h =
    let parts = distinct-parts (suc s) senders h in
    distinct-more s (lessened senders) (has-lessened s senders ∙ parts.0) (apart-lessened senders parts.1)

-- Without sender 0, what is sent is what the traces behind the first tell.
sent-behind : (packets : List Packet) (more : List (List Packet)) (senders : List ℕ) → stands_in 0 senders ≡ false → sent_in (packets ∷ more) senders ≡ sent_in more (lessened senders)
sent-behind packets more [] e = refl
sent-behind packets more (zero ∷ senders) e = absurd (true≢false e)
sent-behind packets more (suc s ∷ senders) e = ap (λ n. length (sent_by more s) + n) (sent-behind packets more senders (or_parts (suc s == 0) (stands_in 0 senders) e).1)

first-once : (packets : List Packet) (more : List (List Packet)) (senders : List ℕ) → are_distinct senders ≡ true → sent_in (packets ∷ more) senders ≤ length packets + sent_in more (lessened senders)
first-once packets more [] h = omega arith
first-once packets more (zero ∷ senders) h = let rest = sent-behind packets more senders (distinct-parts zero senders h).0 in omega (arith, rest)
first-once packets more (suc s ∷ senders) h = let rest = first-once packets more senders (distinct-parts (suc s) senders h).1 in omega (arith, rest)

none-sent : (senders : List ℕ) → sent_in [] senders ≡ 0
none-sent [] = refl
none-sent (s ∷ senders) = let rest = none-sent senders in omega (arith, rest)

pub within-trace : (traces : List (List Packet)) (senders : List ℕ) → are_distinct senders ≡ true → sent_in traces senders ≤ packets_in traces
within-trace [] senders h = let none = none-sent senders in omega (arith, none)
within-trace (packets ∷ more) senders h =
    let first = first-once packets more senders h in let rest = within-trace more (lessened senders) (apart-lessened senders h) in
    omega (arith, first, rest)
