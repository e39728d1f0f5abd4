-- The turn of a DRRSched at rest: it visits each input once and gets nothing, and holds the same after it.
use Rattle.std.proofs.lemmas.Grind.{common_steps, elements}
use Rattle.std.proofs.lemmas.Bool.{false≢true}
use Rattle.std.proofs.lemmas.Bool.Decides.{nat_tests}
use Rattle.std.proofs.lemmas.List.Concat.{flat_map-append}
use Rattle.std.proofs.lemmas.List.FromFn.{map-range_with_len_more}
use Rattle.std.proofs.Math.Nat.{mod-eq_of_lt, mod-add-mod, add-mod_right}
use Rattle.std.proofs.Common.{append-nil, ◌≡◌, ℕ, zero, suc, ◌+◌, ◌%◌, ◌<◌, ◌≤◌, ◌==◌, ◌||◌, if◌then◌else◌, Bool, true, false, List, [], ◌∷◌, ◌++◌, length, map, is_some, slice_get, slice_set, Option, Some, None, refl, sym, ap, ap₂, ◌∙◌, subst, arith, rules}
use Rattle.std.specs.Global.{Box}
use Rattle.std.specs.List.{flat_map, list_any, range_with_len}
use Rattle.clk_packet.specs.declared.packet.Packet.{Packet}
use Rattle.clk_sched.specs.declared.session.drr.Served.{Served}
use Rattle.clk_sched.specs.declared.session.drr.Deficits.{Deficits}
use Rattle.clk_sched.specs.declared.session.nodes.Nodes.{Nodes}
use Rattle.clk_sched.specs.declared.session.state.State.TheVariants.{Drr}
use Rattle.clk_sched.specs.declared.visit.Visit.{Visit}
use Rattle.clk_sched.specs.inside.Holds.Served.{with_quantum, settled}
use Rattle.clk_sched.specs.inside.Holds.Deficit.{HoldsDeficits}
use Rattle.clk_sched.specs.inside.Looking.{IsHead}
use Rattle.clk_sched.specs.inside.Making.{onto, IsMaking, RowFits}
use Rattle.clk_sched.specs.inside.Places.{edges_of, input_at}
use Rattle.clk_sched.specs.inside.Pulling.{CanPull}
use Rattle.clk_sched.specs.inside.Resting.{IsDrrAtRest, IsIdleAt, IsIdleTo, with_block}
use Rattle.clk_sched.specs.inside.Turning.{HadTurn}
use Rattle.clk_sched.proofs.Classes.Deficits.{read-some}
use Rattle.clk_sched.proofs.Lists.Numbers.{equal}
use Rattle.clk_sched.proofs.Nodes.Placed.{set-here, set-other, some-same}
use Rattle.clk_sched.proofs.Nodes.Resting.{RestsTo, block-none, block-then, reached, reached-logs, visits_to}
use Rattle.clk_sched.proofs.Turns.LooksDrr.{looks-at-asked}
use Rattle.clk_sched.proofs.Turns.PastIdle.{emptied, here, reads, next, within, arrives-at, over-long, settles-over, passed-over, passed-all}
use Rattle.clk_sched.proofs.Turns.TurnDrr.{HasEnded, making-first, making-can, making-next, making-all, had-ended}

-- an input without a head, whose deficit is its quantum if it is at the cursor
abbrev rested : Bool → Served → Served
rested at s = record { quantum = s.quantum; deficit = if at then s.quantum else 0; head = None }

-- What a DRRSched at rest holds after so many of its inputs gave nothing.
pub record IsResting (d e : Deficits) (k : ℕ) : Type 0 where
  cursor_is : e.cursor ≡ (d.cursor + k) % length d.row.items
  long : length e.row.items ≡ length d.row.items
  each : (j : ℕ) (t : Served) → slice_get d.row.items j ≡ Some t → slice_get e.row.items j ≡ Some (rested (j == e.cursor) t)

either-none : (a b : Bool) → (a || b) ≡ false → (a ≡ false) × (b ≡ false)
either-none a b e = search rules

pub no-head : (o : Option Packet) → is_some o ≡ false → o ≡ None
no-head None e = refl
no-head (Some p) e = absurd (false≢true (sym e))

none-held : (row : List Served) (j : ℕ) (t : Served) → list_any (λ (s : Served). is_some s.head) row ≡ false → slice_get row j ≡ Some t → t.head ≡ None
none-held [] j t none e = grind (arith, common_steps, elements, nat_tests)
none-held (s ∷ row) zero t none e = ap (λ (x : Served). x.head) (sym (some-same s t e)) ∙ no-head s.head (either-none _ _ none).0
none-held (s ∷ row) (suc j) t none e = none-held row j t (either-none _ _ none).1 e

-- it is at rest
rested-is : (at : Bool) (t : Served) (deficit : ℕ) → deficit ≡ (if at then t.quantum else 0) → t.deficit ≡ deficit → t.head ≡ None → t ≡ rested at t
rested-is at t deficit is e none = ap₂ (λ (n : ℕ) (o : Option Packet). record { quantum = t.quantum; deficit = n; head = o }) (e ∙ is) none

first-is : (d : Deficits) → IsDrrAtRest d → (j : ℕ) (t : Served) → slice_get d.row.items j ≡ Some t → t ≡ rested (j == d.cursor) t
first-is d rest j t e = by_place (j == d.cursor) refl
  where
    head : t.head ≡ None
    head = none-held d.row.items j t rest.none_held e

    by_place : (b : Bool) → (j == d.cursor) ≡ b → t ≡ rested b t
    by_place true at = let is : j ≡ d.cursor = grind (arith, nat_tests) in rested-is true t t.quantum refl (rest.arrived t (subst (λ i. slice_get d.row.items i ≡ Some t) is e)) head
    by_place false away = rested-is false t 0 refl (d.idle_without j t e (λ is. false≢true (sym away ∙ equal j d.cursor is)) head) head

rest-first : (d : Deficits) → IsDrrAtRest d → IsResting d d 0
rest-first d rest =
    let within = d.cursor_within in
    let none : d.cursor ≡ d.cursor + 0 = omega arith in
    record {
      cursor_is = none ∙ sym (mod-eq_of_lt (omega (arith, within)));
      long = refl;
      each = λ j t e. e ∙ ap Some (first-is d rest j t e);
    }

-- What stands there once the input at the cursor gave nothing, before the next is arrived at.
emptied-each : (d e : Deficits) (k : ℕ) → IsResting d e k → (j : ℕ) (t : Served) → slice_get d.row.items j ≡ Some t → slice_get (emptied e (here e)) j ≡ Some (rested false t)
emptied-each d e k h j t is = by_place (j == e.cursor) refl
  where
    held : slice_get e.row.items j ≡ Some (rested (j == e.cursor) t)
    held = h.each j t is

    by_place : (b : Bool) → (j == e.cursor) ≡ b → slice_get (emptied e (here e)) j ≡ Some (rested false t)
    by_place true at =
        let same : j ≡ e.cursor = grind (arith, nat_tests) in
        let found : here e ≡ rested (j == e.cursor) t = some-same (here e) (rested (j == e.cursor) t) (sym (reads e) ∙ ap (slice_get e.row.items) (sym same) ∙ held) in
        ap (slice_get (emptied e (here e))) same ∙ set-here e.row.items e.cursor (settled (here e) None) e.cursor_within ∙ ap (λ (s : Served). Some (settled s None)) found
    by_place false away =
        set-other e.row.items e.cursor j (settled (here e) None) (λ same. false≢true (sym away ∙ equal j e.cursor same)) ∙ held ∙ ap (λ b. Some (rested b t)) away

arrived-is : (t : Served) → with_quantum (rested false t) ≡ rested true t
arrived-is t = let sum : 0 + t.quantum ≡ t.quantum = omega arith in ap (λ (n : ℕ). record { quantum = t.quantum; deficit = n; head = None }) sum

row-each : (d e : Deficits) (k : ℕ) → IsResting d e k → (u : Served) → slice_get (emptied e (here e)) (next e) ≡ Some u → (j : ℕ) (t : Served) → slice_get d.row.items j ≡ Some t
    → slice_get (slice_set (emptied e (here e)) (next e) (with_quantum u)) j ≡ Some (rested (j == next e) t)
row-each d e k h u at_next j t is = by_place (j == next e) refl
  where
    by_place : (b : Bool) → (j == next e) ≡ b → slice_get (slice_set (emptied e (here e)) (next e) (with_quantum u)) j ≡ Some (rested b t)
    by_place true at =
        let same : j ≡ next e = grind (arith, nat_tests) in
        let found : u ≡ rested false t = some-same u (rested false t) (sym at_next ∙ ap (slice_get (emptied e (here e))) (sym same) ∙ emptied-each d e k h j t is) in
        ap (slice_get (slice_set (emptied e (here e)) (next e) (with_quantum u))) same ∙ set-here (emptied e (here e)) (next e) (with_quantum u) (within e) ∙ ap (λ (s : Served). Some (with_quantum s)) found ∙ ap Some (arrived-is t)
    by_place false away = set-other (emptied e (here e)) (next e) j (with_quantum u) (λ same. false≢true (sym away ∙ equal j (next e) same)) ∙ emptied-each d e k h j t is

rest-next : (d e : Deficits) (k : ℕ) → IsResting d e k → IsResting d (passed-over e) (k + 1)
rest-next d e k h =
    let u = read-some (emptied e (here e)) (next e) (within e) in
    let sum : d.cursor + k + 1 ≡ d.cursor + (k + 1) = omega arith in
    record {
      cursor_is = ap₂ (λ c n. (c + 1) % n) h.cursor_is h.long ∙ mod-add-mod (d.cursor + k) (length d.row.items) 1 ∙ ap (λ m. m % length d.row.items) sum;
      long = over-long e ∙ h.long;
      each = λ j t is. ap (λ row. slice_get row j) (arrives-at e u.0 u.1) ∙ row-each d e k h u.0 u.1 j t is;
    }

-- After a whole turn it holds what it held.
around-holds : (d e : Deficits) (quanta : List ℕ) (inputs : ℕ) (before : List Visit) → IsDrrAtRest d → IsResting d e (length d.row.items) → HoldsDeficits quanta inputs before e → HoldsDeficits quanta inputs before d
around-holds d e quanta inputs before rest h holds =
    record {
      length_is = sym h.long ∙ holds.length_is;
      cursor_is = sym cursor ∙ holds.cursor_is;
      each = λ i s is. holds.each i s (h.each i s is ∙ ap (λ c. Some (rested (i == c) s)) cursor ∙ ap Some (sym (first-is d rest i s is)));
    }
  where
    cursor : e.cursor ≡ d.cursor
    cursor = h.cursor_is ∙ add-mod_right d.cursor (length d.row.items) ∙ mod-eq_of_lt d.cursor_within

-- no head is held at the cursor
rest-free : (d e : Deficits) (k : ℕ) → IsResting d e k → IsHead e None
rest-free d e k h s is =
    let t = read-some d.row.items e.cursor (let long = h.long in let in_row = e.cursor_within in omega (arith, long, in_row)) in
    ap (λ (x : Served). x.head) (some-same s (rested (e.cursor == e.cursor) t.0) (sym is ∙ h.each e.cursor t.0 t.1))

-- the inputs from the cursor on
abbrev pub around : Deficits → ℕ → List ℕ
around d k = map (λ j. (d.cursor + j) % length d.row.items) (range_with_len 0 k)

around-next : (d : Deficits) (k : ℕ) → around d (k + 1) ≡ around d k ++ (d.cursor + k) % length d.row.items ∷ []
around-next d k = map-range_with_len_more (λ j. (d.cursor + j) % length d.row.items) 0 k (0 + k) refl ∙ (let same : 0 + k ≡ k = omega arith in ap (λ j. around d k ++ (d.cursor + j) % length d.row.items ∷ []) same)

-- so many visits of its turn
record IsSoFar {S : Type 0} (gives : S → ℕ → Option Packet → S → Type 0) (a : Nodes) (q : S) (deep x : ℕ) (d : Deficits) (k : ℕ) : Type 0 where
  making : IsMaking gives a (with_block a (flat_map (visits_to deep a x) (around d k))) q q x d (passed-all k d) k
  resting : IsResting d (passed-all k d) k

module _ {S : Type 0} (gives : S → ℕ → Option Packet → S → Type 0) (a : Nodes) (q : S) (deep x : ℕ) (d : Deficits) (rests : RestsTo gives q deep) (low : length a.inputs.items ≤ suc x + deep) (can : CanPull a x (edges_of a.inputs.items x))
    (fits : RowFits a.inputs.items x d) (rest : IsDrrAtRest d) (idle : (i : ℕ) → IsIdleAt gives q (λ m. IsIdleTo gives deep a.inputs.items a.states.items q m) (input_at a.inputs.items x i)) where
  one-more : (k : ℕ) → k < length d.row.items → IsSoFar gives a q deep x d k → IsSoFar gives a q deep x d (k + 1)
  one-more k l h =
      let mid = passed-all k d in
      let b = with_block a (flat_map (visits_to deep a x) (around d k)) in
      let may = making-can gives a b q q x d mid k can fits h.making l in
      let r = reached gives b q deep x mid.cursor rests low may.0 may.1 (idle mid.cursor) in
      let look = looks-at-asked gives b _ (with_block b (visits_to deep a x mid.cursor)) q q x mid (passed-over mid) None false may.1 (rest-free d mid k h.resting) r.keeps r.asks r.answers (reached-logs b deep x mid.cursor) (settles-over mid) in
      let made = making-next gives a b (with_block b (visits_to deep a x mid.cursor)) q q q x d mid (passed-over mid) k None false h.making l look refl in
      let all : with_block b (visits_to deep a x mid.cursor) ≡ with_block a (flat_map (visits_to deep a x) (around d (k + 1))) =
      block-then a (flat_map (visits_to deep a x) (around d k)) (visits_to deep a x mid.cursor)
      ∙ ap (λ l. with_block a (flat_map (visits_to deep a x) (around d k) ++ l)) (ap (visits_to deep a x) h.resting.cursor_is ∙ sym (append-nil _))
      ∙ ap (with_block a) (sym (flat_map-append (visits_to deep a x) (around d k) ((d.cursor + k) % length d.row.items ∷ [])) ∙ ap (flat_map (visits_to deep a x)) (sym (around-next d k)))
      in
      let next_is : k + 1 ≡ suc k = omega arith in
      record {
        making = subst (λ m. IsMaking gives a (with_block a (flat_map (visits_to deep a x) (around d (k + 1)))) q q x d (passed-all m d) (k + 1)) (sym next_is)
            (subst (λ c. IsMaking gives a c q q x d (passed-over mid) (k + 1)) all made);
        resting = subst (λ m. IsResting d (passed-all m d) (k + 1)) (sym next_is) (rest-next d mid k h.resting);
      }

  so-far : (k : ℕ) → k ≤ length d.row.items → IsSoFar gives a q deep x d k
  so-far zero l = record { making = subst (λ b. IsMaking gives a b q q x d d 0) (sym (block-none a)) (making-first gives a q x d can.fit); resting = rest-first d rest }
  so-far (suc k) l = let next_is : k + 1 ≡ suc k = omega arith in subst (IsSoFar gives a q deep x d) next_is (one-more k (omega arith) (so-far k (omega arith)))

  ended : HasEnded gives a (with_block a (flat_map (visits_to deep a x) (around d (length d.row.items)))) q q x d d None
  ended =
      let n = length d.row.items in
      let h = so-far n (omega arith) in
      let e = making-all gives a (with_block a (flat_map (visits_to deep a x) (around d n))) q q x d (passed-all n d) n h.making refl in
      record {
        own = e.own;
        made = record {
          keeps = e.made.keeps;
          answers = e.made.answers;
          asks = e.made.asks;
          length_is = refl;
          within = e.made.within;
          apart = e.made.apart;
          lawful = λ quanta inputs earlier held.
              let l = e.made.lawful quanta inputs earlier held in (l.0, around-holds d (passed-all n d) quanta inputs (onto e.own earlier) rest h.resting l.1);
        };
        end = e.end;
        result = e.result;
      }

  pub had-rested : (held : Box Deficits) → held.value ≡ d → HadTurn gives a (with_block a (flat_map (visits_to deep a x) (around d (length d.row.items)))) q q x (Drr held) (Drr held) None
  had-rested held is = had-ended gives a (with_block a (flat_map (visits_to deep a x) (around d (length d.row.items)))) q q x d d None can fits ended held held is is
