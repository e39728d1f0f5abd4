-- What was emitted of a queue's senders is what its tap took, and nothing else was emitted.
use Rattle.std.proofs.Common.{◌≡◌, ℕ, ◌<◌, inl, inr, ⊎_elim, Bool, true, false, true≢false, List, [], ◌∷◌, map, filter, Option, Some, None, MatchOption, refl, sym, ap, ◌∙◌, subst, eq-eqb, arith, if◌then◌else◌, rules}
use Rattle.std.specs.List.{AllByRecursion}
use Rattle.std.proofs.lemmas.Bool.{eqb-true}
use Rattle.clk_packet.specs.declared.packet.Packet.{Packet}
use Rattle.clk_packet.specs.Lists.{stands_in, AreRising}
use Rattle.clk_packet.proofs.Callers.Lists.{all-both}
use Rattle.clk_sched.specs.Run.{IsRun}
use Rattle.clk_sched.specs.Results.{Traced, leaf_packets, traced_emitted, emitted, heads}
use Rattle.clk_sched.specs.Conservation.{from_queue, ConservesPackets, MakesNothing}
use Rattle.clk_sched.specs.Session.{Progress}
use Rattle.clk_sched.proofs.Callers.Traced.{emitted-traced, none-traced, all-traced}
use Rattle.clk_drain.specs.Line.{LineLists, leaves_of, seats_of, seats_in, senders_at, AreLinesOf, HaveOwnSenders}
use Rattle.clk_drain.specs.inside.Parts.{IsSettledLine}
use Rattle.clk_drain.proofs.Leaves.Seated.{line_senders, Sits, CameOver, sits-has, one-leaf, came-over}
use Rattle.clk_drain.proofs.Lists.{all-unmap, all-named}

-- What each tap took is what was emitted of its queue.
taken-emitted : (session : Progress) (lines : List LineLists) → ConservesPackets session.tree → IsRun session.tree session.log → heads session.tree session.log ≡ [] → AreLinesOf session lines
    → (q : ℕ) → stands_in q (leaves_of lines) ≡ true → leaf_packets session.tree q session.log ≡ from_queue q (traced_emitted session.tree session.log)
taken-emitted session lines conserves run no_heads are q stands = search (rules, none-traced)

-- A sender on a line sits at its leaf, and who sits at its leaf is on the line, as each line has a leaf of its own.
none-below : (s n : ℕ) (lines : List LineLists) → AllByRecursion (λ m. n < m) (leaves_of lines) → Sits s n lines → ⊥
none-below s n [] below sits = sits
none-below s n (l ∷ lines) below (inl here) = let lt = below.0 in let is = here.0 in absurd (omega (arith, lt, is))
none-below s n (l ∷ lines) below (inr later) = none-below s n lines below.1 later

-- The senders of a line are those that sit at its leaf.
record HasOwnLeaf (lines : List LineLists) (l : LineLists) : Type 0 where
  there : (s : ℕ) → stands_in s (line_senders l) ≡ true → Sits s l.leaf lines
  here : (s : ℕ) → Sits s l.leaf lines → stands_in s (line_senders l) ≡ true

own-leaves : (lines : List LineLists) → AreRising (leaves_of lines) → AllByRecursion (HasOwnLeaf lines) lines
own-leaves [] rise = tt
own-leaves (l ∷ lines) rise = (
  record { there = λ s has. inl (refl, has); here = λ s sits. ⊎_elim (λ at. at.1) (λ later. absurd (none-below s l.leaf lines rise.0 later)) sits },
  all-both (λ (m : LineLists). l.leaf < m.leaf) (HasOwnLeaf lines) (HasOwnLeaf (l ∷ lines)) lines
      (λ m lt own. record {
        there = λ s has. inr (own.there s has);
        here = λ s sits. ⊎_elim (λ at. let is = at.0 in absurd (omega (arith, lt, is))) (λ later. own.here s later) sits;
      })
      (all-unmap (λ n. l.leaf < n) (λ (m : LineLists). m.leaf) lines rise.0) (own-leaves lines rise.1),
)

-- What came from a line's leaf is what is of the line's senders.
of-line : (lines : List LineLists) (l : LineLists) → HaveOwnSenders lines → HasOwnLeaf lines l → (ts : List Traced) → AllByRecursion (CameOver lines) ts
    → filter (λ (p : Packet). stands_in p.sender (line_senders l)) (map (λ (t : Traced). t.0) ts) ≡ from_queue l.leaf ts
of-line lines l own at [] over = refl
of-line lines l own at (t ∷ ts) over = by_origin (of-line lines l own at ts over.1) t.1 t.0 over.0
  where
    by_origin : filter (λ (p : Packet). stands_in p.sender (line_senders l)) (map (λ (t : Traced). t.0) ts) ≡ from_queue l.leaf ts
        → (o : Option ℕ) (p : Packet) → MatchOption o ⊥ (λ q. Sits p.sender q lines) → filter (λ (p : Packet). stands_in p.sender (line_senders l)) (p ∷ map (λ (t : Traced). t.0) ts) ≡ from_queue l.leaf ((p, o) ∷ ts)
    by_origin rest None p sits = absurd sits
    by_origin rest (Some q) p sits = by_test (stands_in p.sender (line_senders l)) refl
      where
        not-here : stands_in p.sender (line_senders l) ≡ false → q ≡ l.leaf → ⊥
        not-here none same = true≢false (sym (at.here p.sender (subst (λ n. Sits p.sender n lines) same sits)) ∙ none)

        by_test : (b : Bool) → stands_in p.sender (line_senders l) ≡ b
            → (if b then p ∷ filter (λ (p : Packet). stands_in p.sender (line_senders l)) (map (λ (t : Traced). t.0) ts) else filter (λ (p : Packet). stands_in p.sender (line_senders l)) (map (λ (t : Traced). t.0) ts)) ≡ from_queue l.leaf ((p, Some q) ∷ ts)
        by_test true has = let same = one-leaf p.sender q l.leaf lines own sits (at.there p.sender has) in search (rules, eq-eqb)
        by_test false none = let other = not-here none in search (rules, eqb-true)

-- Of what was emitted, each tap took what is of its line's senders.
pub emitted-of : (session : Progress) (lines : List LineLists) → ConservesPackets session.tree → MakesNothing session.tree → IsRun session.tree session.log → heads session.tree session.log ≡ [] → AreLinesOf session lines → HaveOwnSenders lines → AllByRecursion IsSettledLine lines
    → AllByRecursion (λ (l : LineLists). filter (λ (p : Packet). stands_in p.sender (senders_at (seats_of l))) (emitted session.log) ≡ l.tap.taken) lines
emitted-of session lines conserves makes run no_heads are own settled =
    all-both (HasOwnLeaf lines) (λ (l : LineLists). (l.tap.taken ≡ leaf_packets session.tree l.leaf session.log) × (stands_in l.leaf (leaves_of lines) ≡ true)) _ lines
    (λ l at k. ap (filter (λ (p : Packet). stands_in p.sender (line_senders l))) (emitted-traced session.tree session.log)
    ∙ of-line lines l own at (traced_emitted session.tree session.log) (search (rules, came-over)) ∙ sym (taken-emitted session lines conserves run no_heads are l.leaf k.1) ∙ sym k.0)
    (own-leaves lines are.rise)
    (all-both (λ (l : LineLists). l.tap.taken ≡ leaf_packets session.tree l.leaf session.log) (λ (l : LineLists). stands_in l.leaf (leaves_of lines) ≡ true) _ lines (λ l t n. (t, n)) are.taken (all-named (λ (l : LineLists). l.leaf) lines))

-- All that was emitted is of senders that have a seat.
pub emitted-own : (session : Progress) (lines : List LineLists) → ConservesPackets session.tree → MakesNothing session.tree → IsRun session.tree session.log → heads session.tree session.log ≡ [] → AreLinesOf session lines → HaveOwnSenders lines → AllByRecursion IsSettledLine lines
    → AllByRecursion (λ (p : Packet). stands_in p.sender (senders_at (seats_in lines)) ≡ true) (emitted session.log)
emitted-own session lines conserves makes run no_heads are own settled =
    subst (AllByRecursion (λ (p : Packet). stands_in p.sender (senders_at (seats_in lines)) ≡ true)) (sym (emitted-traced session.tree session.log))
    (all-traced (λ s q. Sits s q lines) (λ s. stands_in s (senders_at (seats_in lines)) ≡ true) (λ q s sits. sits-has s q lines sits) (traced_emitted session.tree session.log) (came-over session lines are settled (traced_emitted session.tree session.log) (makes session.log run).0))
