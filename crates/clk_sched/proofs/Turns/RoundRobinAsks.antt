-- What a RoundRobinSched asks first, and what it asks after that.
use Rattle.std.proofs.Common.{◌≡◌, ℕ, zero, suc, ◌+◌, ◌-◌, ◌%◌, ◌<◌, ◌≤◌, List, [], ◌∷◌, length, take, drop, get_or, slice_get, slice_index, vec_len, Option, Some, None, IsSome, IfSome, refl, sym, ap, ◌∙◌, subst, arith}
use Rattle.std.specs.List.{range_with_len}
use Rattle.std.proofs.lemmas.List.FromFn.{length-range_with_len, get_or-range_with_len}
use Rattle.clk_packet.specs.declared.packet.Packet.{Packet}
use Rattle.clk_sched.specs.declared.session.inputs.Inputs.{Inputs}
use Rattle.clk_sched.specs.declared.session.nodes.Nodes.{Nodes}
use Rattle.clk_sched.specs.declared.session.round_robin.Beginning.{Beginning}
use Rattle.clk_sched.specs.declared.session.state.State.{State}
use Rattle.clk_sched.specs.declared.session.state.State.TheVariants.{RoundRobin}
use Rattle.clk_sched.specs.inside.Holds.OfClass.{IsRoundRobin}
use Rattle.clk_sched.specs.inside.Places.{edges_of, edges_at, input_at}
use Rattle.clk_sched.specs.inside.Pulling.{CanPull}
use Rattle.clk_sched.specs.inside.Turning.{with_state, HasAsked, HasAskedAll, HadTurn, MayAskOn, WasPulled}
use Rattle.clk_sched.proofs.Lists.Ranges.{range-drop}
use Rattle.clk_sched.proofs.Nodes.Asking.{asking-first, asking-ready, asking-given, asked-vain}
use Rattle.clk_sched.proofs.Nodes.First.{later, asked-on, on-none}
use Rattle.clk_sched.proofs.Nodes.Idle.{turn-can}
use Rattle.clk_sched.proofs.Nodes.Ordered.{item-there}
use Rattle.clk_sched.proofs.Nodes.Placed.{pulled-put, pulled-still, some-same, state-there}
use Rattle.clk_sched.proofs.Turns.TurnRoundRobin.{Begins, begins, MayAsk, may-first, may-second, had-first, had-second, had-none}

-- the beginning of a RoundRobinSched is one thing
abbrev beginning_or : Beginning → State → Beginning
beginning_or b (RoundRobin c) = c
beginning_or b s = b

beginning-same : (b c : Beginning) → RoundRobin b ≡ RoundRobin c → b ≡ c
beginning-same b c e = ap (beginning_or b) e

-- a RoundRobinSched holds a beginning
pub round-there : (states : List State) (x : ℕ) → x < length states → IfSome (slice_get states x) IsRoundRobin → (b : Beginning) × (slice_get states x ≡ Some (RoundRobin b))
round-there states x l h = let s = item-there states x l in by_state s.0 s.1 (subst (λ o. IfSome o IsRoundRobin) s.1 h)
  where
    by_state : (s : State) → slice_get states x ≡ Some s → IsRoundRobin s → (b : Beginning) × (slice_get states x ≡ Some (RoundRobin b))
    by_state (RoundRobin b) e h = (b, e)
    by_state s e h = absurd h

-- Its turn begins.
abbrev pub round-none : {S : Type 0} (gives : S → ℕ → Option Packet → S → Type 0) (a : Nodes) (q : S) (x : ℕ) → CanPull a x (edges_of a.inputs.items x) → IfSome (slice_get a.states.items x) IsRoundRobin
    → (b : Beginning) × MayAskOn gives a q x (RoundRobin b) (b.input ∷ []) 0
round-none gives a q x can holds =
    let held = round-there a.states.items x (state-there a x _ can) holds in (held.0, on-none gives a q x (RoundRobin held.0) (held.0.input ∷ []) can held.1)

-- The first input of the first part, which it may ask, and which gave a packet.
module _ {S : Type 0} (gives : S → ℕ → Option Packet → S → Type 0) (a : Nodes) (q : S) (x n : ℕ) (b : Beginning) (can : CanPull a x (edges_of a.inputs.items x)) (begun : slice_get a.states.items x ≡ Some (RoundRobin b)) (h : Begins a.inputs.items x n b.input) where
  abbrev part : List ℕ
  part = range_with_len b.input (n - b.input)

  some : 0 < length part
  some = let low = h.low in let size = length-range_with_len b.input (n - b.input) in omega (arith, size, low)

  here : b.input ≡ slice_index part 0
  here = let low = h.low in let same : b.input ≡ b.input + 0 = omega arith in same ∙ sym (get_or-range_with_len b.input (n - b.input) 0 0 (omega (arith, low)))

  pub first-may : CanPull a x (edges_at a.inputs.items x b.input) × IsSome (input_at a.inputs.items x b.input)
  first-may = let may = may-first a x n b.input h can in asking-ready gives a a q q x 0 b.input part may.0 may.1 (asking-first gives a q x can.fit) some here

  pub first-gave : (u c : Nodes) (r : S) (next : ℕ) (got : Option Packet) (packet : Packet) → got ≡ Some packet → HasAsked gives a u q r x b.input got → next ≡ (b.input + 1) % n → c ≡ with_state u x (RoundRobin (record { input = next }))
      → WasPulled gives a c q r x (Some packet)
  first-gave u c r next got packet is asked next_is back =
      let sum : b.input + 1 ≡ b.input + 0 + 1 = omega arith in
      let low = h.low in
      pulled-put gives a u c q r x _ (RoundRobin b) (RoundRobin (record { input = next })) (Some packet) begun can
      (subst (λ k. HadTurn gives a u q r x (RoundRobin b) (RoundRobin (record { input = k })) (Some packet)) (sym (next_is ∙ ap (λ k. k % n) sum))
      (had-first gives a u q r x n b.input 0 packet (Some (0, packet)) h can refl (omega (arith, low))
      (asking-given gives a a u q q r x 0 b.input got packet part some (asking-first gives a q x can.fit) here is asked)))
      back

-- of the first part, what is asked at most first
front : (asked first n : ℕ) → asked ≤ 1 → first < n → take asked (first ∷ []) ≡ take asked (range_with_len first (n - first))
front zero first n l low = refl
front (suc zero) first n l low = let next : suc (n - first - 1) ≡ n - first = omega (arith, low) in ap (λ m. take 1 (range_with_len first m)) next
front (suc (suc k)) first n l low = absurd (omega (arith, l))

-- What is left of its turn, once it asked the first input or none.
module _ {S : Type 0} (gives : S → ℕ → Option Packet → S → Type 0) (n : Nodes) (q : S) (x asked : ℕ) (b : Beginning) (m : MayAskOn gives n q x (RoundRobin b) (b.input ∷ []) asked) (count : ℕ) (p : Inputs) (place : p ≡ get_or n.inputs.items x p) (all : count ≡ vec_len p.each) where
  pub on-begins : Begins m.first.inputs.items x count b.input
  on-begins = begins m.first x count b p m.can (subst (λ t. p ≡ get_or t x p) m.in_vain.keeps.inputs place) all m.begun

  abbrev one : List ℕ
  one = range_with_len b.input (count - b.input)

  few : asked ≤ count - b.input
  few = let low = on-begins.low in let most = m.within in omega (arith, low, most)

  vain : HasAskedAll gives m.first n m.before q x (take asked one) None
  vain = subst (λ l. HasAskedAll gives m.first n m.before q x l None) (front asked b.input count m.within on-begins.low) m.in_vain

  rest : range_with_len (b.input + asked) (count - b.input - asked) ≡ drop asked one
  rest = sym (range-drop b.input (count - b.input) asked few)

  pub on-may : MayAsk n x (b.input + asked) (count - b.input - asked)
  on-may =
      let may = may-first m.first x count b.input on-begins m.can in
      let can = turn-can gives m.first n m.before q x b.input (count - b.input) asked few may.0 may.1 (asked-vain gives m.first n m.before q x (take asked one) None refl vain) in
      let low = on-begins.low in
      let most = on-begins.few in (can.0, can.1, omega (arith, few, low, most))

  given : (u : Nodes) (r : S) (o : Option (ℕ × Packet)) → HasAskedAll gives n u q r x (range_with_len (b.input + asked) (count - b.input - asked)) o → HasAskedAll gives m.first u m.before r x one (later asked o)
  given u r o others = asked-on gives m.first n u m.before q r x asked one _ o (subst (λ k. asked ≤ k) (sym (length-range_with_len b.input (count - b.input))) few) rest vain others

  -- One of the first part gave a packet.
  pub on-first : (u c : Nodes) (r : S) (at next : ℕ) (packet : Packet) (o : Option (ℕ × Packet)) → o ≡ Some (at, packet) → IfSome o (λ g. g.0 < count - b.input - asked)
      → HasAskedAll gives n u q r x (range_with_len (b.input + asked) (count - b.input - asked)) o → next ≡ (b.input + asked + at + 1) % count → c ≡ with_state u x (RoundRobin (record { input = next })) → WasPulled gives m.first c m.before r x (Some packet)
  on-first u c r at next packet o is within others next_is back =
      let below : at < count - b.input - asked = subst (λ k. IfSome k (λ g. g.0 < count - b.input - asked)) is within in
      let sum : b.input + asked + at + 1 ≡ b.input + (asked + at) + 1 = omega arith in
      let same : later asked o ≡ Some (asked + at, packet) = ap (later asked) is in
      pulled-put gives m.first u c m.before r x _ (RoundRobin b) (RoundRobin (record { input = next })) (Some packet) m.begun m.can
      (subst (λ k. HadTurn gives m.first u m.before r x (RoundRobin b) (RoundRobin (record { input = k })) (Some packet)) (sym (next_is ∙ ap (λ k. k % count) sum))
      (had-first gives m.first u m.before r x count b.input (asked + at) packet (later asked o) on-begins m.can same
      (subst (λ k. IfSome k (λ g. g.0 < count - b.input)) (sym same) (omega (arith, few, below))) (given u r o others)))
      back

  pub on-second-may : (u : Nodes) (r : S) (o : Option (ℕ × Packet)) → HasAskedAll gives n u q r x (range_with_len (b.input + asked) (count - b.input - asked)) o → MayAsk u x 0 b.input
  on-second-may u r o others = may-second m.first u x count b.input on-begins m.can (given u r o others).keeps

  -- None of it did, and one of the second part.
  pub on-second : (u v c : Nodes) (r s : S) (at : ℕ) (packet : Packet) (o k : Option (ℕ × Packet)) → o ≡ None → HasAskedAll gives n u q r x (range_with_len (b.input + asked) (count - b.input - asked)) o → k ≡ Some (at, packet)
      → IfSome k (λ g. g.0 < b.input) → HasAskedAll gives u v r s x (range_with_len 0 b.input) k → c ≡ with_state v x (RoundRobin (record { input = at + 1 })) → WasPulled gives m.first c m.before s x (Some packet)
  on-second u v c r s at packet o k none others is within second back =
      pulled-put gives m.first v c m.before s x _ (RoundRobin b) (RoundRobin (record { input = at + 1 })) (Some packet) m.begun m.can
      (had-second gives m.first u v m.before r s x count b.input at packet (later asked o) k on-begins m.can (ap (later asked) none) (given u r o others) is within second) back

  -- Nor did one of that.
  pub on-neither : (u v : Nodes) (r s : S) (o k : Option (ℕ × Packet)) → o ≡ None → HasAskedAll gives n u q r x (range_with_len (b.input + asked) (count - b.input - asked)) o → k ≡ None → HasAskedAll gives u v r s x (range_with_len 0 b.input) k
      → WasPulled gives m.first v m.before s x None
  on-neither u v r s o k none others neither second =
      pulled-still gives m.first v m.before s x (RoundRobin b) None m.begun
      (had-none gives m.first u v m.before r s x count b.input (later asked o) k on-begins m.can (ap (later asked) none) (given u r o others) neither second)

-- What holds of what a RoundRobinSched is found to hold holds of what it is told to.
pub on-same : {S : Type 0} (gives : S → ℕ → Option Packet → S → Type 0) (n c : Nodes) (q r : S) (x asked : ℕ) (b d : Beginning) (got : Option Packet) → slice_get n.states.items x ≡ Some (RoundRobin b)
    → ((m : MayAskOn gives n q x (RoundRobin b) (b.input ∷ []) asked) → WasPulled gives m.first c m.before r x got) → (m : MayAskOn gives n q x (RoundRobin d) (d.input ∷ []) asked) → WasPulled gives m.first c m.before r x got
on-same gives n c q r x asked b d got found pulled m =
    subst (λ e. (k : MayAskOn gives n q x (RoundRobin e) (e.input ∷ []) asked) → WasPulled gives k.first c k.before r x got) (beginning-same b d (some-same (RoundRobin b) (RoundRobin d) (sym found ∙ m.stays))) pulled m

pub on-found : {S : Type 0} (gives : S → ℕ → Option Packet → S → Type 0) (n : Nodes) (q : S) (x asked : ℕ) (b : Beginning) → slice_get n.states.items x ≡ Some (RoundRobin b)
    → (d : Beginning) × MayAskOn gives n q x (RoundRobin d) (d.input ∷ []) asked → MayAskOn gives n q x (RoundRobin b) (b.input ∷ []) asked
on-found gives n q x asked b found m =
    subst (λ e. MayAskOn gives n q x (RoundRobin e) (e.input ∷ []) asked) (beginning-same m.0 b (some-same (RoundRobin m.0) (RoundRobin b) (sym m.1.stays ∙ found))) m.1

-- The bounds on what it goes on with.
pub on-few : {S : Type 0} (gives : S → ℕ → Option Packet → S → Type 0) (n : Nodes) (q : S) (x asked : ℕ) (b : Beginning) (count : ℕ) (p : Inputs) → slice_get n.states.items x ≡ Some (RoundRobin b)
    → (d : Beginning) × MayAskOn gives n q x (RoundRobin d) (d.input ∷ []) asked → p ≡ get_or n.inputs.items x p → count ≡ vec_len p.each → (asked ≤ 1) × (b.input < count) × (count ≤ 64)
on-few gives n q x asked b count p here on place all =
    let m = on-found gives n q x asked b here on in
    let h = on-begins gives n q x asked b m count p place all in (m.within, h.low, h.few)
