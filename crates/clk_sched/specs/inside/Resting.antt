-- Nodes that a pull leaves as they are, since all queues below them are empty: what it visits.
use Rattle.std.specs.Prelude.{◌≡◌, ℕ, zero, suc, ◌+◌, ◌-◌, ◌%◌, ◌≤◌, nat_lt, false, if◌then◌else◌, List, [], ◌∷◌, ◌++◌, length, map, ⊤, Option, Some, None, IfSome, is_some, slice_get}
use Rattle.std.specs.List.{flat_map, range_with_len, list_any}
use Rattle.clk_packet.specs.declared.packet.Packet.{Packet}
use Rattle.clk_sched.specs.declared.visit.Visit.{Visit}
use Rattle.clk_sched.specs.declared.session.drr.Served.{Served}
use Rattle.clk_sched.specs.declared.session.drr.Deficits.{Deficits}
use Rattle.clk_sched.specs.declared.session.inputs.Input.{Input}
use Rattle.clk_sched.specs.declared.session.inputs.Input.TheVariants.{Queue, Node}
use Rattle.clk_sched.specs.declared.session.inputs.Inputs.{Inputs}
use Rattle.clk_sched.specs.declared.session.nodes.Nodes.{Nodes}
use Rattle.clk_sched.specs.declared.session.state.State.{State}
use Rattle.clk_sched.specs.declared.session.state.State.TheVariants.{RoundRobin, Drr, Stride, Shaper}
use Rattle.clk_sched.specs.Log.{asking}
use Rattle.clk_sched.specs.inside.Holds.Shaper.{tokens_at}
use Rattle.clk_sched.specs.inside.Logged.{with_visits}
use Rattle.clk_sched.specs.inside.Places.{input_at}
use Rattle.clk_sched.specs.inside.Pulling.{Now}
use Rattle.clk_sched.specs.inside.Ranks.{inputs_in}

-- A DRRSched holds no head, and at its cursor the deficit is the quantum.
pub record IsDrrAtRest (d : Deficits) : Type 0 where
  pub none_held : list_any (λ (s : Served). is_some s.head) d.row.items ≡ false
  pub arrived : (s : Served) → slice_get d.row.items d.cursor ≡ Some s → s.deficit ≡ s.quantum

-- A turn in which a node with this state gets nothing leaves the state as it is, or a Shaper with one that tells the same.
abbrev pub IsAtRest : State → Type 0
IsAtRest (Drr d) = IsDrrAtRest d.value
IsAtRest s = ⊤

-- the order in which a node with this state, over so many inputs, asks these in a turn at a moment in which it gets nothing
abbrev pub resting_order : State → ℕ → ℕ → List ℕ
resting_order (RoundRobin b) moment inputs = range_with_len b.input (inputs - b.input) ++ range_with_len 0 b.input
resting_order (Drr d) moment inputs = map (λ k. (d.value.cursor + k) % inputs) (range_with_len 0 inputs)
resting_order (Stride p) moment inputs = inputs_in p.value.row.items
resting_order (Shaper b) moment inputs = if nat_lt 0 (tokens_at b moment) then 0 ∷ [] else []
resting_order s moment inputs = range_with_len 0 inputs

abbrev pub order_at : ℕ → Option State → Option Inputs → List ℕ
order_at moment None p = []
order_at moment (Some s) None = []
order_at moment (Some s) (Some p) = resting_order s moment (length p.each.items)

-- the visits below an input, by those of each node
abbrev pub block_below : (ℕ → List Visit) → Option Input → List Visit
block_below block None = []
block_below block (Some (Queue leaf)) = []
block_below block (Some (Node m)) = block m

-- the visits below an input of a node, and then the one to it
abbrev pub block_to : (ℕ → List Visit) → List Inputs → Now → ℕ → ℕ → List Visit
block_to block table now x i = block_below block (input_at table x i) ++ asking now.number now.moment x i None ∷ []

-- The visits of a pull of node x that gets nothing, at most so many levels deep.
abbrev pub resting_block : ℕ → List Inputs → List State → Now → ℕ → List Visit
resting_block zero table states now x = []
resting_block (suc deep) table states now x = flat_map (block_to (λ m. resting_block deep table states now m) table now x) (order_at now.moment (slice_get states x) (slice_get table x))

-- nothing comes from what stands at an input
abbrev pub IsIdleAt : {S : Type 0} → (S → ℕ → Option Packet → S → Type 0) → S → (ℕ → Type 0) → Option Input → Type 0
IsIdleAt gives q Below None = ⊤
IsIdleAt gives q Below (Some (Queue leaf)) = gives q leaf None q
IsIdleAt gives q Below (Some (Node m)) = Below m

-- Node x and all nodes below it are at rest, and the queues below it may give nothing and then stay as they are, so many levels deep.
abbrev pub IsIdleTo : {S : Type 0} → (S → ℕ → Option Packet → S → Type 0) → ℕ → List Inputs → List State → S → ℕ → Type 0
IsIdleTo gives zero table states q x = ⊤
IsIdleTo gives (suc deep) table states q x = IfSome (slice_get states x) IsAtRest × ((i : ℕ) → IsIdleAt gives q (λ m. IsIdleTo gives deep table states q m) (input_at table x i))

-- the same of all levels: a node below another has a greater number
abbrev pub IsIdleNode : {S : Type 0} → (S → ℕ → Option Packet → S → Type 0) → Nodes → S → ℕ → Type 0
IsIdleNode gives n q x = (deep : ℕ) → length n.inputs.items ≤ x + deep → IsIdleTo gives deep n.inputs.items n.states.items q x

-- What stands at an input of node x gives nothing: a queue, or a node that is at rest with all nodes below it.
abbrev pub IsIdleInput : {S : Type 0} → (S → ℕ → Option Packet → S → Type 0) → Nodes → S → ℕ → ℕ → Type 0
IsIdleInput gives n q x i = (deep : ℕ) → length n.inputs.items ≤ suc x + deep → IsIdleAt gives q (λ m. IsIdleTo gives deep n.inputs.items n.states.items q m) (input_at n.inputs.items x i)

-- a node and so many after it are at rest
abbrev pub AreAtRest : List State → ℕ → ℕ → Type 0
AreAtRest states x after = (y : ℕ) → x ≤ y → y ≤ x + after → IfSome (slice_get states y) IsAtRest

-- these nodes, with some more visits
abbrev pub with_block : Nodes → List Visit → Nodes
with_block a visits = record { inputs = a.inputs; states = a.states; log = with_visits a.log visits; pull = a.pull; moment = a.moment }
