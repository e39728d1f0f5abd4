-- The turn of a PrioSched.
use Rattle.std.proofs.Common.{◌≡◌, ℕ, ◌+◌, ◌<◌, ◌≤◌, List, length, slice_get, Option, Some, None, IsSome, IfSome, refl, sym, ap, ◌∙◌, subst, arith, rules}
use Rattle.std.specs.List.{AllByRecursion, range_with_len}
use Rattle.clk_packet.specs.declared.packet.Packet.{Packet}
use Rattle.clk_sched.specs.declared.session.inputs.Inputs.{Inputs}
use Rattle.clk_sched.specs.declared.session.nodes.Nodes.{Nodes}
use Rattle.clk_sched.specs.declared.session.state.State.{State}
use Rattle.clk_sched.specs.declared.session.state.State.TheVariants.{Prio}
use Rattle.clk_packet.specs.Scheduler.{Scheduler, prio}
use Rattle.clk_sched.specs.Tree.{width}
use Rattle.clk_sched.specs.Turns.{AsksInOrder}
use Rattle.clk_sched.specs.inside.Holds.OfClass.{IsPrio}
use Rattle.clk_sched.specs.inside.Places.{edges_of, edges_at, edges_in, input_at}
use Rattle.clk_sched.specs.inside.Pulling.{CanPull, AsksAll, TakesTurn, now_of, asked_in_order}
use Rattle.clk_sched.specs.inside.Turning.{HasAsked, HasAskedAll, WasPulled}
use Rattle.clk_sched.proofs.Classes.Orders.{IsOrderOf, priority-order}
use Rattle.clk_sched.proofs.Nodes.InOrder.{IsWithin, packet_of, turned-in-order, within-range}
use Rattle.clk_sched.proofs.Nodes.Asking.{keeps-more}
use Rattle.clk_sched.proofs.Nodes.Ordered.{IsOrderAt, item-there, stands-width, can-ask, inputs-asked, had-order}
use Rattle.clk_sched.proofs.Nodes.Placed.{some-same, state-there, fits-there, pulled-still}

-- a PrioSched holds one thing alone, by which a scheduler of no other class has a turn
prio-alone : (a b : Nodes) (x : ℕ) (now : State) (got : Option Packet) → TakesTurn a b x prio Prio now got → (class : Scheduler) → TakesTurn a b x class Prio now got
prio-alone a b x now got h prio row history ready holds = h row history ready holds
prio-alone a b x now got h class row history ready holds = absurd holds

is-prio : (s : State) → IsPrio s → s ≡ Prio
is-prio Prio h = refl
is-prio s h = absurd h

prio-there : (states : List State) (x : ℕ) → x < length states → IfSome (slice_get states x) IsPrio → slice_get states x ≡ Some Prio
prio-there states x l h = let s = item-there states x l in s.1 ∙ ap Some (is-prio s.0 (subst (λ o. IfSome o IsPrio) s.1 h))

pub prio-turn : (a b : Nodes) (x count : ℕ) (p : Inputs) (r : Option (ℕ × Packet)) → slice_get a.inputs.items x ≡ Some p → count ≡ length p.each.items → IsWithin (range_with_len 0 count) r
    → AsksAll a b x (range_with_len 0 count) (asked_in_order (now_of a) x (range_with_len 0 count) r) → TakesTurn a b x prio Prio Prio (packet_of r)
prio-turn a b x count p r e all within asked row history ready holds =
    let inputs : count ≡ width row = all ∙ stands-width a.inputs.items x row p ready.stands e in
    record {
      turned = (turned-in-order a b history x prio row (range_with_len 0 count) r ready within asked (subst (λ n. IsOrderOf n (range_with_len 0 count)) inputs (priority-order count))
          (λ h. subst (λ n. AsksInOrder (range_with_len 0 n) (asked_in_order (now_of a) x (range_with_len 0 count) r)) inputs h)).turned;
      holds = tt;
    }

-- The order of priority is one of the inputs that there are.
prio-order : (table : List Inputs) (x n : ℕ) (p : Inputs) → slice_get table x ≡ Some p → n ≡ length p.each.items → IsOrderAt table x (range_with_len 0 n)
prio-order table x n p e all q f = subst (λ m. IsOrderOf m (range_with_len 0 n)) (all ∙ ap (λ (y : Inputs). length y.each.items) (some-same p q (sym e ∙ f))) (priority-order n)

pub prio-asks : (a : Nodes) (x n : ℕ) (p : Inputs) → CanPull a x (edges_of a.inputs.items x) → slice_get a.inputs.items x ≡ Some p → n ≡ length p.each.items
    → CanPull a x (edges_in a.inputs.items x (range_with_len 0 n)) × AllByRecursion (λ i. IsSome (input_at a.inputs.items x i)) (range_with_len 0 n) × (0 + n ≤ 64)
prio-asks a x n p can e all = search (rules, prio-order, can-ask, inputs-asked)

pub prio-pulled : {S : Type 0} (gives : S → ℕ → Option Packet → S → Type 0) (a b : Nodes) (q r : S) (x n : ℕ) (p : Inputs) (o : Option (ℕ × Packet)) → CanPull a x (edges_of a.inputs.items x) → IfSome (slice_get a.states.items x) IsPrio
    → slice_get a.inputs.items x ≡ Some p → n ≡ length p.each.items → IfSome o (λ k. k.0 < n) → HasAskedAll gives a b q r x (range_with_len 0 n) o → WasPulled gives a b q r x (packet_of o)
prio-pulled gives a b q r x n p o can holds e all within asked =
    let state = prio-there a.states.items x (state-there a x (edges_of a.inputs.items x) can) holds in
    pulled-still gives a b q r x Prio (packet_of o) state
    (had-order gives a b q r x (range_with_len 0 n) o Prio Prio can (prio-order a.inputs.items x n p e all) asked (fits-there a.inputs.items a.states.items x Prio can.fit state)
    (prio-alone a b x Prio (packet_of o) (prio-turn a b x n p o e all (within-range 0 n o within) asked.asks)))

-- what one input gave, as the first of its order
abbrev at_first : Option Packet → Option (ℕ × Packet)
at_first None = None
at_first (Some p) = Some (0, p)

packet-first : (got : Option Packet) → packet_of (at_first got) ≡ got
packet-first got = search rules

within-first : (got : Option Packet) → IfSome (at_first got) (λ k. k.0 < 1)
within-first got = search rules

asked-first : {S : Type 0} (gives : S → ℕ → Option Packet → S → Type 0) (a b : Nodes) (q r : S) (x : ℕ) (got : Option Packet) → HasAsked gives a b q r x 0 got → HasAskedAll gives a b q r x (range_with_len 0 1) (at_first got)
asked-first gives a b q r x None h = record { keeps = keeps-more a b _ _ h.keeps (omega arith); answers = h.answers; asks = h.asks }
asked-first gives a b q r x (Some p) h = record { keeps = keeps-more a b _ _ h.keeps (omega arith); answers = h.answers; asks = h.asks }

-- A PrioSched over one input was pulled once it asked that.
pub device-pulled : {S : Type 0} (gives : S → ℕ → Option Packet → S → Type 0) (a b : Nodes) (q r : S) (x : ℕ) (got : Option Packet) → CanPull a x (edges_of a.inputs.items x) → IfSome (slice_get a.states.items x) IsPrio
    → IfSome (slice_get a.inputs.items x) (λ (p : Inputs). length p.each.items ≡ 1) → HasAsked gives a b q r x 0 got → WasPulled gives a b q r x got
device-pulled gives a b q r x got can holds one asked =
    let here = item-there a.inputs.items x can.there in
    subst (WasPulled gives a b q r x) (packet-first got)
    (prio-pulled gives a b q r x 1 here.0 (at_first got) can holds here.1 (sym (subst (λ o. IfSome o (λ (p : Inputs). length p.each.items ≡ 1)) here.1 one)) (within-first got) (asked-first gives a b q r x got asked))

-- what asking the one input takes
pub device-asks : (a : Nodes) (x : ℕ) → CanPull a x (edges_of a.inputs.items x) → IfSome (slice_get a.inputs.items x) (λ (p : Inputs). length p.each.items ≡ 1)
    → CanPull a x (edges_at a.inputs.items x 0) × IsSome (input_at a.inputs.items x 0)
device-asks a x can one =
    let here = item-there a.inputs.items x can.there in
    let may = prio-asks a x 1 here.0 can here.1 (sym (subst (λ o. IfSome o (λ (p : Inputs). length p.each.items ≡ 1)) here.1 one)) in
    let room = may.0.room in
    (record { wired = can.wired; fit = can.fit; there = can.there; room = omega (arith, room); moment = can.moment }, may.1.0)
