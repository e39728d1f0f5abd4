-- What a node asks first in its turn, and what after that.
use Rattle.std.proofs.Common.{◌≡◌, ℕ, ◌+◌, ◌<◌, ◌≤◌, List, [], ◌∷◌, ◌++◌, length, take, drop, slice_get, slice_index, Option, Some, None, refl, sym, ap, ◌∙◌, subst, arith}
use Rattle.std.proofs.lemmas.List.{length-take-le, take-append-drop}
use Rattle.clk_packet.specs.declared.packet.Packet.{Packet}
use Rattle.clk_sched.specs.declared.session.nodes.Nodes.{Nodes}
use Rattle.clk_sched.specs.declared.session.state.State.{State}
use Rattle.clk_sched.specs.inside.Places.{edges_of}
use Rattle.clk_sched.specs.inside.Pulling.{CanPull}
use Rattle.clk_sched.specs.inside.Turning.{HasAsked, HasAskedAll, MayAskOn}
use Rattle.clk_sched.proofs.Nodes.Asking.{asking-first, asking-next, asked-vain}
use Rattle.clk_sched.proofs.Nodes.InTwo.{in_second, past-length, asked-both}

-- the first of an order
pub first-of : (order : List ℕ) (i : ℕ) → take 1 order ≡ i ∷ [] → (0 < length order) × (i ≡ slice_index order 0)
first-of [] i e = absurd (let none = ap length e in omega (arith, none))
first-of (j ∷ order) i e = (omega arith, sym (ap (λ l. slice_index l 0) e))

-- It asked none so far.
abbrev pub on-none : {S : Type 0} (gives : S → ℕ → Option Packet → S → Type 0) (a : Nodes) (q : S) (x : ℕ) (state : State) (order : List ℕ) → CanPull a x (edges_of a.inputs.items x) → slice_get a.states.items x ≡ Some state
    → MayAskOn gives a q x state order 0
on-none gives a q x state order can begun =
    record { first = a; before = q; can = can; begun = begun; stays = begun; within = omega arith; in_vain = asking-first gives a q x can.fit }

-- The first gave nothing.
abbrev pub on-vain : {S : Type 0} (gives : S → ℕ → Option Packet → S → Type 0) (a b : Nodes) (q r : S) (x i : ℕ) (state : State) (order : List ℕ) (got : Option Packet) → CanPull a x (edges_of a.inputs.items x)
    → slice_get a.states.items x ≡ Some state → take 1 order ≡ i ∷ [] → got ≡ None → HasAsked gives a b q r x i got → MayAskOn gives b r x state order 1
on-vain gives a b q r x i state order got can begun is vain asked =
    record {
      first = a;
      before = q;
      can = can;
      begun = begun;
      stays = asked.keeps.ahead x (omega arith) ∙ begun;
      within = let some = (first-of order i is).0 in omega (arith, some);
      in_vain = asking-next gives a a b q q r x 0 i got order (first-of order i is).0 (asking-first gives a q x can.fit) (first-of order i is).1 vain asked;
    }

-- a place among those of an order that are left after so many, as one of the order
abbrev pub later : ℕ → Option (ℕ × Packet) → Option (ℕ × Packet)
later asked None = None
later asked (Some r) = Some (asked + r.0, r.1)

-- The first inputs of an order gave nothing, and the others were asked.
pub asked-on : {S : Type 0} (gives : S → ℕ → Option Packet → S → Type 0) (a b c : Nodes) (p q r : S) (x asked : ℕ) (order rest : List ℕ) (o : Option (ℕ × Packet)) → asked ≤ length order → rest ≡ drop asked order
    → HasAskedAll gives a b p q x (take asked order) None → HasAskedAll gives b c q r x rest o → HasAskedAll gives a c p r x order (later asked o)
asked-on gives a b c p q r x asked order rest o within is vain given =
    subst (λ l. HasAskedAll gives a c p r x l (later asked o)) (take-append-drop asked order)
    (subst (HasAskedAll gives a c p r x (take asked order ++ drop asked order)) (places o)
    (asked-both gives a b c p q r x (take asked order) (drop asked order) o (asked-vain gives a b p q x (take asked order) None refl vain) (subst (λ l. HasAskedAll gives b c q r x l o) is given)))
  where
    places : (o : Option (ℕ × Packet)) → in_second (take asked order) o ≡ later asked o
    places None = refl
    places (Some r) = ap (λ k. Some (k, r.1)) (past-length (take asked order) r.0 ∙ ap (λ n. n + r.0) (length-take-le asked order within))
