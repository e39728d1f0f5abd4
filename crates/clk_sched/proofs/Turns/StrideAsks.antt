-- What a StrideSched asks first, and what it asks after that.
use Rattle.std.proofs.Common.{◌≡◌, ℕ, ◌+◌, ◌-◌, ◌<◌, ◌≤◌, List, [], ◌∷◌, length, take, drop, slice_get, Option, Some, None, IsSome, IfSome, refl, sym, ap, ◌∙◌, subst, arith}
use Rattle.std.specs.List.{AllByRecursion}
use Rattle.std.proofs.lemmas.List.{length-drop, length-map}
use Rattle.std.specs.Global.{Box}
use Rattle.clk_packet.specs.declared.packet.Packet.{Packet}
use Rattle.clk_sched.specs.declared.session.nodes.Nodes.{Nodes}
use Rattle.clk_sched.specs.declared.session.state.State.{State}
use Rattle.clk_sched.specs.declared.session.state.State.TheVariants.{Prio, Stride}
use Rattle.clk_sched.specs.declared.session.stride.Passes.{Passes}
use Rattle.clk_sched.specs.inside.Holds.OfClass.{IsStride}
use Rattle.clk_sched.specs.inside.Places.{edges_of, edges_at, edges_in, input_at}
use Rattle.clk_sched.specs.inside.Pulling.{CanPull}
use Rattle.clk_sched.specs.inside.Ranks.{Ranked, AreInOrder, inputs_in}
use Rattle.clk_sched.specs.inside.Turning.{with_state, HasAsked, HasAskedAll, HadTurn, MayAskOn, WasPulled}
use Rattle.clk_sched.specs.inside.Winning.{IsWonAt, WinsFirst, TurnsOn}
use Rattle.clk_sched.proofs.Classes.RankLemmas.{after-place, inputs-after, in_order-after}
use Rattle.clk_sched.proofs.Nodes.Asking.{IsAsking, asking-first, asking-ready, asking-given, asked-vain}
use Rattle.clk_sched.proofs.Nodes.First.{first-of, later, asked-on, on-none}
use Rattle.clk_sched.proofs.Nodes.Idle.{rest-can}
use Rattle.clk_sched.proofs.Nodes.Ordered.{item-there}
use Rattle.clk_sched.proofs.Nodes.Placed.{asked-placed, can-put, fits-there, kept-there, passes-same, pulled-back, pulled-put, some-same, state-there}
use Rattle.clk_sched.proofs.Turns.TurnStride.{FitsAt, stride-in_order, stride-may, had-won, had-lost}

-- a StrideSched holds passes
pub stride-there : (states : List State) (x : ℕ) → x < length states → IfSome (slice_get states x) IsStride → (held : Box Passes) × (slice_get states x ≡ Some (Stride held))
stride-there states x l h = let s = item-there states x l in by_state s.0 s.1 (subst (λ o. IfSome o IsStride) s.1 h)
  where
    by_state : (s : State) → slice_get states x ≡ Some s → IsStride s → (held : Box Passes) × (slice_get states x ≡ Some (Stride held))
    by_state (Stride held) e h = (held, e)
    by_state s e h = absurd h

-- Its turn begins.
abbrev pub stride-none : {S : Type 0} (gives : S → ℕ → Option Packet → S → Type 0) (a : Nodes) (q : S) (x : ℕ) → CanPull a x (edges_of a.inputs.items x) → IfSome (slice_get a.states.items x) IsStride
    → (held : Box Passes) × MayAskOn gives a q x (Stride held) (inputs_in held.value.row.items) 0
stride-none gives a q x can holds =
    let held = stride-there a.states.items x (state-there a x _ can) holds in (held.0, on-none gives a q x (Stride held.0) (inputs_in held.0.value.row.items) can held.1)

-- What stands at an input that is first in the row of a StrideSched, which it may ask.
module _ {S : Type 0} (gives : S → ℕ → Option Packet → S → Type 0) (a : Nodes) (q : S) (x : ℕ) (held : Box Passes) (can : CanPull a x (edges_of a.inputs.items x)) (begun : slice_get a.states.items x ≡ Some (Stride held)) where
  abbrev order : List ℕ
  order = inputs_in held.value.row.items

  fits : FitsAt a.inputs.items x held.value
  fits = fits-there a.inputs.items a.states.items x (Stride held) can.fit begun

  none : IsAsking gives a a q q x (take 0 order)
  none = asking-first gives a q x can.fit

  pub first-order : AreInOrder held.value.row.items
  first-order = stride-in_order a.inputs.items x held.value can.there fits

  pub first-may : (i : ℕ) → take 1 order ≡ i ∷ [] → CanPull a x (edges_at a.inputs.items x i) × IsSome (input_at a.inputs.items x i)
  first-may i is =
      let may = stride-may a x held.value held.value.row.items can fits refl in
      let here = first-of order i is in
      asking-ready gives a a q q x 0 i order may.0 may.1 none here.0 here.1

  pub first-some : (i : ℕ) → take 1 order ≡ i ∷ [] → 0 < length held.value.row.items
  first-some i is = subst (λ n. 0 < n) (length-map held.value.row.items (λ (k : Ranked). k.input)) (first-of order i is).0

  -- It gave a packet, and wins.
  pub first-won : (b c : Nodes) (r : S) (i : ℕ) (got : Option Packet) (packet : Packet) → take 1 order ≡ i ∷ [] → got ≡ Some packet → HasAsked gives a b q r x i got → WinsFirst b c x held → WasPulled gives a c q r x (Some packet)
  first-won b c r i got packet is given asked wins =
      let here = first-of order i is in
      pulled-put gives a b c q r x _ (Stride held) (Stride wins.holds) (Some packet) begun can
      (had-won gives a b q r x 0 packet held.value wins.holds.value held.value.row.items (Some (0, packet)) can fits refl refl (first-some i is)
      (asking-given gives a a b q q r x 0 i got packet order here.0 none here.1 given asked) wins.won held wins.holds refl refl)
      wins.is

-- The ranks that are left of a row after so many, in words of its order.
pub left-after : (row : List Ranked) (s : Passes) (n : ℕ) → row ≡ s.row.items → inputs_in (take (length row - n) (drop n row)) ≡ drop n (inputs_in s.row.items)
left-after row s n is = inputs-after row n ∙ ap (λ l. drop n (inputs_in l)) is

pub left-order : (row : List Ranked) (s : Passes) (n : ℕ) → row ≡ s.row.items → AreInOrder s.row.items → AreInOrder (take (length row - n) (drop n row))
left-order row s n is h = subst AreInOrder (sym (after-place row n)) (in_order-after n row (subst AreInOrder (sym is) h))

-- passes that fit, of which so many inputs were asked
abbrev pub FitsLater : Nodes → ℕ → ℕ → Passes → Type 0
FitsLater n x asked s = FitsAt n.inputs.items x s × (asked ≤ length s.row.items)

fits-first : {S : Type 0} (gives : S → ℕ → Option Packet → S → Type 0) (a b : Nodes) (p q : S) (x : ℕ) (order : List ℕ) (s : Passes) → HasAskedAll gives a b p q x order None → FitsAt b.inputs.items x s → FitsAt a.inputs.items x s
fits-first gives a b p q x _ s vain fits = subst (λ table. FitsAt table x s) vain.keeps.inputs fits

-- One of those that were left gave a packet.
pub turned-won : {S : Type 0} (gives : S → ℕ → Option Packet → S → Type 0) (b c : Nodes) (q r : S) (x asked place : ℕ) (packet : Packet) (s z : Passes) (row : List Ranked) (o : Option (ℕ × Packet)) → FitsLater b x asked s → row ≡ s.row.items
    → o ≡ Some (place, packet) → IfSome o (λ k. k.0 < length (take (length row - asked) (drop asked row))) → HasAskedAll gives b c q r x (inputs_in (take (length row - asked) (drop asked row))) o → IsWonAt s z (asked + place)
    → TurnsOn gives b c q r x asked s z (Some packet)
turned-won gives b c q r x asked place packet s z row o fits is given within others won first before held holds can vain held_is holds_is =
    had-won gives first c before r x (asked + place) packet s z s.row.items (Some (asked + place, packet)) can (fits-first gives first b before q x (take asked (inputs_in s.row.items)) s vain fits.0) refl refl below
    (subst (λ k. HasAskedAll gives first c before r x (inputs_in s.row.items) (later asked k)) given
    (asked-on gives first b c before q r x asked (inputs_in s.row.items) _ o (subst (λ n. asked ≤ n) (sym (length-map s.row.items (λ (k : Ranked). k.input))) fits.1) (left-after row s asked is) vain others)) won held holds held_is
    holds_is
  where
    below : asked + place < length s.row.items
    below =
        let size = ap length (after-place row asked) ∙ length-drop asked row in
        let same = ap length is in
        let here = subst (λ k. IfSome k (λ g. g.0 < length (take (length row - asked) (drop asked row)))) given within in omega (arith, size, same, here)

-- None of them gave one.
pub turned-lost : {S : Type 0} (gives : S → ℕ → Option Packet → S → Type 0) (b c : Nodes) (q r : S) (x asked : ℕ) (s : Passes) (row : List Ranked) (o : Option (ℕ × Packet)) → FitsLater b x asked s → row ≡ s.row.items → o ≡ None
    → HasAskedAll gives b c q r x (inputs_in (take (length row - asked) (drop asked row))) o → TurnsOn gives b c q r x asked s s None
turned-lost gives b c q r x asked s row o fits is none others first before held holds can vain held_is holds_is =
    had-lost gives first c before r x s s.row.items None can (fits-first gives first b before q x (take asked (inputs_in s.row.items)) s vain fits.0) refl refl
    (subst (λ k. HasAskedAll gives first c before r x (inputs_in s.row.items) (later asked k)) none
    (asked-on gives first b c before q r x asked (inputs_in s.row.items) _ o (subst (λ n. asked ≤ n) (sym (length-map s.row.items (λ (k : Ranked). k.input))) fits.1) (left-after row s asked is) vain others)) held holds held_is
    holds_is

-- The passes of a StrideSched are taken out for the rest of its turn.
pub record IsOut {S : Type 0} (gives : S → ℕ → Option Packet → S → Type 0) (n t : Nodes) (q : S) (x asked : ℕ) (passes : Box Passes) (s : Passes) : Type 0 where
  pub held : Box Passes
  pub may : MayAskOn gives n q x (Stride held) (inputs_in held.value.row.items) asked
  pub state : slice_get n.states.items x ≡ Some (Stride passes)
  pub out : t ≡ with_state n x Prio
  pub is : s ≡ passes.value

held-is : {S : Type 0} (gives : S → ℕ → Option Packet → S → Type 0) (n t : Nodes) (q : S) (x asked : ℕ) (passes : Box Passes) (s : Passes) (h : IsOut gives n t q x asked passes s) → h.held.value ≡ s
held-is gives n t q x asked passes s h = ap (λ (b : Box Passes). b.value) (passes-same h.held passes (some-same (Stride h.held) (Stride passes) (sym h.may.stays ∙ h.state))) ∙ sym h.is

-- What it may do then.
pub record MayTurn (t : Nodes) (x asked : ℕ) (s : Passes) : Type 0 where
  pub can : CanPull t x (edges_in t.inputs.items x (drop asked (inputs_in s.row.items)))
  pub there : AllByRecursion (λ i. IsSome (input_at t.inputs.items x i)) (drop asked (inputs_in s.row.items))
  pub fits : FitsLater t x asked s

pub out-may : {S : Type 0} (gives : S → ℕ → Option Packet → S → Type 0) (n t : Nodes) (q : S) (x asked : ℕ) (passes : Box Passes) (s : Passes) → IsOut gives n t q x asked passes s → MayTurn t x asked s
out-may gives n t q x asked passes s h =
    subst (λ (u : Nodes). MayTurn u x asked s) (sym h.out)
    (subst (MayTurn (with_state n x Prio) x asked) (held-is gives n t q x asked passes s h)
    (record { can = can-put n x _ Prio rest.0 (λ p e. tt); there = rest.1; fits = (subst (λ table. FitsAt table x h.held.value) (sym m.in_vain.keeps.inputs) fits, subst (λ n. asked ≤ n) (length-map h.held.value.row.items (λ (k : Ranked). k.input)) m.within) }))
  where
    m : MayAskOn gives n q x (Stride h.held) (inputs_in h.held.value.row.items) asked
    m = h.may

    order : List ℕ
    order = inputs_in h.held.value.row.items

    fits : FitsAt m.first.inputs.items x h.held.value
    fits = fits-there m.first.inputs.items m.first.states.items x (Stride h.held) m.can.fit m.begun

    rest : CanPull n x (edges_in n.inputs.items x (drop asked order)) × AllByRecursion (λ i. IsSome (input_at n.inputs.items x i)) (drop asked order)
    rest =
        let may = stride-may m.first x h.held.value h.held.value.row.items m.can fits refl in
        rest-can gives m.first n m.before q x asked order may.0 may.1 (asked-vain gives m.first n m.before q x (take asked order) None refl m.in_vain)

-- It had its turn.
pub out-turned : {S : Type 0} (gives : S → ℕ → Option Packet → S → Type 0) (n t u : Nodes) (q r : S) (x asked : ℕ) (passes holds : Box Passes) (s : Passes) (got : Option Packet) (h : IsOut gives n t q x asked passes s)
    → TurnsOn gives t u q r x asked s holds.value got → HadTurn gives (with_state h.may.first x Prio) u h.may.before r x (Stride h.held) (Stride holds) got
out-turned gives n t u q r x asked passes holds s got h turn =
    let m = h.may in
    let same = held-is gives n t q x asked passes s h in
    turn (with_state m.first x Prio) m.before h.held holds (can-put m.first x _ Prio m.can (λ p e. tt))
    (subst (λ (v : Nodes). HasAskedAll gives (with_state m.first x Prio) v m.before q x (take asked (inputs_in s.row.items)) None) (sym h.out)
    (subst (λ (p : Passes). HasAskedAll gives (with_state m.first x Prio) (with_state n x Prio) m.before q x (take asked (inputs_in p.row.items)) None) same
    (asked-placed gives m.first n m.before q x (take asked (inputs_in h.held.value.row.items)) None Prio m.can.there m.can.fit (λ p e. tt) m.in_vain))) same refl

pub out-there : {S : Type 0} (gives : S → ℕ → Option Packet → S → Type 0) (n t u : Nodes) (q r : S) (x asked : ℕ) (passes holds : Box Passes) (s : Passes) (got : Option Packet) → IsOut gives n t q x asked passes s
    → TurnsOn gives t u q r x asked s holds.value got → x < length u.states.items
out-there gives n t u q r x asked passes holds s got h turn =
    kept-there (with_state h.may.first x Prio) u x _ _ (can-put h.may.first x _ Prio h.may.can (λ p e. tt)) (out-turned gives n t u q r x asked passes holds s got h turn).keeps

-- It was pulled once they are put back.
pub out-pulled : {S : Type 0} (gives : S → ℕ → Option Packet → S → Type 0) (n t u b : Nodes) (q r : S) (x asked : ℕ) (passes holds : Box Passes) (s : Passes) (got : Option Packet) (h : IsOut gives n t q x asked passes s)
    → TurnsOn gives t u q r x asked s holds.value got → b ≡ with_state u x (Stride holds) → WasPulled gives h.may.first b h.may.before r x got
out-pulled gives n t u b q r x asked passes holds s got h turn back =
    let m = h.may in
    pulled-back gives m.first (with_state m.first x Prio) u b m.before r x _ (Stride h.held) (Stride holds) got refl m.begun m.can (out-turned gives n t u q r x asked passes holds s got h turn) back
