-- A pull of a node at rest over empty queues: its visits are logged, and nothing else changes.
use Rattle.std.proofs.Common.{◌≡◌, ℕ, zero, suc, ◌+◌, ◌≤◌, nat_lt, List, length, slice_get, Option, Some, None, IfSome, refl, sym, ap₂, subst, arith}
use Rattle.std.specs.Global.{Box}
use Rattle.std.specs.List.{flat_map, range_with_len}
use Rattle.clk_packet.specs.declared.packet.Packet.{Packet}
use Rattle.clk_sched.specs.declared.session.drr.Deficits.{Deficits}
use Rattle.clk_sched.specs.declared.session.inputs.Inputs.{Inputs}
use Rattle.clk_sched.specs.declared.session.nodes.Nodes.{Nodes}
use Rattle.clk_sched.specs.declared.session.round_robin.Beginning.{Beginning}
use Rattle.clk_sched.specs.declared.session.shaper.Bucket.{Bucket}
use Rattle.clk_sched.specs.declared.session.state.State.{State}
use Rattle.clk_sched.specs.declared.session.state.State.TheVariants.{Prio, RoundRobin, Drr, Stride, Shaper}
use Rattle.clk_sched.specs.declared.session.stride.Passes.{Passes}
use Rattle.clk_sched.specs.inside.Holds.OfClass.{IsPrio}
use Rattle.clk_sched.specs.inside.Holds.Shaper.{tokens_at}
use Rattle.clk_sched.specs.inside.Places.{edges_of, input_at}
use Rattle.clk_sched.specs.inside.Pulling.{CanPull}
use Rattle.clk_sched.specs.inside.Ranks.{inputs_in}
use Rattle.clk_sched.specs.inside.Resting.{IsAtRest, IsIdleAt, IsIdleTo, order_at, resting_order, with_block}
use Rattle.clk_sched.specs.inside.Turning.{WasPulled}
use Rattle.clk_sched.proofs.Classes.Bucket.{bucket-tells}
use Rattle.clk_sched.proofs.Nodes.Ordered.{item-there, can-ask, can-order, had-order, inputs-asked, order-there}
use Rattle.clk_sched.proofs.Nodes.Placed.{fits-there, fits-each, pulled-still, state-there}
use Rattle.clk_sched.proofs.Nodes.Resting.{RestsTo, reached-all, visits_to}
use Rattle.clk_sched.proofs.Turns.RestDrr.{around, had-rested}
use Rattle.clk_sched.proofs.Turns.TurnPrio.{prio-asks, prio-pulled}
use Rattle.clk_sched.proofs.Turns.TurnRoundRobin.{parts, parts-order, had-both}
use Rattle.clk_sched.proofs.Turns.TurnShaper.{asked_by, shaper-alone, shaper-asks, shaper-input, shaper-none, shaper-turn}
use Rattle.clk_sched.proofs.Turns.TurnStride.{stride-may, had-lost}

module _ {S : Type 0} (gives : S → ℕ → Option Packet → S → Type 0) (a : Nodes) (q : S) (deep x : ℕ) (p : Inputs) (rests : RestsTo gives q deep) (low : length a.inputs.items ≤ suc x + deep) (can : CanPull a x (edges_of a.inputs.items x))
    (e : slice_get a.inputs.items x ≡ Some p) (idle : (i : ℕ) → IsIdleAt gives q (λ m. IsIdleTo gives deep a.inputs.items a.states.items q m) (input_at a.inputs.items x i)) where
  -- these nodes, with the visits of inputs in an order, and those below each
  abbrev asked : List ℕ → Nodes
  asked order = with_block a (flat_map (visits_to deep a x) order)

  inputs : ℕ
  inputs = length p.each.items

  prio-rests : slice_get a.states.items x ≡ Some Prio → WasPulled gives a (asked (range_with_len 0 (length p.each.items))) q q x None
  prio-rests state =
      let order = range_with_len 0 (length p.each.items) in
      let may = prio-asks a x (length p.each.items) p can e refl in
      prio-pulled gives a (asked order) q q x (length p.each.items) p None can (subst (λ o. IfSome o IsPrio) (sym state) tt) e refl tt (reached-all gives a q deep x order rests low may.0 may.1 idle)

  round_robin-rests : (b : Beginning) → slice_get a.states.items x ≡ Some (RoundRobin b) → WasPulled gives a (asked (parts b.input (length p.each.items))) q q x None
  round_robin-rests b state =
      let n = length p.each.items in
      let order = parts b.input n in
      let below = fits-each a.inputs.items x (RoundRobin b) (fits-there a.inputs.items a.states.items x (RoundRobin b) can.fit state) p e in
      let is = parts-order n b.input below in
      let all = reached-all gives a q deep x order rests low (can-order a x p order can e is.apart) (order-there a.inputs.items x p order e is.within) idle in
      pulled-still gives a (asked order) q q x (RoundRobin b) None state
      (had-both gives a (asked order) q q x n b.input b.input None (record { inputs = p; place = e; count = refl; low = below; few = (can.wired x p e).few }) can all tt refl below)

  stride-rests : (b : Box Passes) → slice_get a.states.items x ≡ Some (Stride b) → WasPulled gives a (asked (inputs_in b.value.row.items)) q q x None
  stride-rests b state =
      let order = inputs_in b.value.row.items in
      let fits = fits-there a.inputs.items a.states.items x (Stride b) can.fit state in
      let may = stride-may a x b.value b.value.row.items can fits refl in
      pulled-still gives a (asked order) q q x (Stride b) None state
      (had-lost gives a (asked order) q q x b.value b.value.row.items None can fits refl refl (reached-all gives a q deep x order rests low may.0 may.1 idle) b b refl refl)

  drr-rests : (b : Box Deficits) → slice_get a.states.items x ≡ Some (Drr b) → IsAtRest (Drr b) → WasPulled gives a (asked (resting_order (Drr b) a.moment (length p.each.items))) q q x None
  drr-rests b state rest =
      let fits = fits-there a.inputs.items a.states.items x (Drr b) can.fit state in
      let long = fits-each a.inputs.items x (Drr b) fits p e in
      subst (λ n. WasPulled gives a (asked (resting_order (Drr b) a.moment n)) q q x None) long
      (pulled-still gives a (asked (around b.value (length b.value.row.items))) q q x (Drr b) None state (had-rested gives a q deep x b.value rests low can fits rest idle b refl))

  shaper-rests : (b : Bucket) → slice_get a.states.items x ≡ Some (Shaper b) → WasPulled gives a (asked (asked_by (nat_lt 0 (tokens_at b a.moment)))) q q x None
  shaper-rests b state =
      let token = nat_lt 0 (tokens_at b a.moment) in
      let order = asked_by token in
      let some = shaper-input a x b can state in
      let is = shaper-asks a.inputs.items x token some in
      let all = reached-all gives a q deep x order rests low (can-ask a x order can is) (inputs-asked a.inputs.items x order can.there is) idle in
      pulled-still gives a (asked order) q q x (Shaper b) None state
      (had-order gives a (asked order) q q x order None (Shaper b) (Shaper b) can is all (fits-there a.inputs.items a.states.items x (Shaper b) can.fit state)
      (shaper-alone a (asked order) x b (Shaper b) None
      (λ rate burst. shaper-turn a (asked order) x b b token None rate burst can.there some (bucket-tells b a.moment) tt all.asks (shaper-none a x token b))))

  class-rests : (s : State) → slice_get a.states.items x ≡ Some s → IsAtRest s → WasPulled gives a (asked (resting_order s a.moment (length p.each.items))) q q x None
  class-rests Prio state rest = prio-rests state
  class-rests (RoundRobin b) state rest = round_robin-rests b state
  class-rests (Drr b) state rest = drr-rests b state rest
  class-rests (Stride b) state rest = stride-rests b state
  class-rests (Shaper b) state rest = shaper-rests b state

-- Nodes at rest can be pulled so many levels deep.
pub rests-to : {S : Type 0} (gives : S → ℕ → Option Packet → S → Type 0) (q : S) (deep : ℕ) → RestsTo gives q deep
rests-to gives q zero a x low can idle = let there = can.there in absurd (omega (arith, low, there))
rests-to gives q (suc deep) a x low can idle =
    let s = item-there a.states.items x (state-there a x (edges_of a.inputs.items x) can) in
    let p = item-there a.inputs.items x can.there in
    subst (λ order. WasPulled gives a (with_block a (flat_map (visits_to deep a x) order)) q q x None) (sym (ap₂ (order_at a.moment) s.1 p.1))
    (class-rests gives a q deep x p.0 (λ b y l c i. rests-to gives q deep b y l c i) (omega (arith, low)) can p.1 idle.1 s.0 s.1 (subst (λ o. IfSome o IsAtRest) s.1 idle.0))
