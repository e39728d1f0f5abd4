-- What it means that a node was pulled, had its turn, or asked its inputs.
use Rattle.std.specs.Prelude.{◌≡◌, ℕ, suc, ◌≤◌, List, [], ◌∷◌, length, take, Option, Some, None, IfSome, slice_get}
use Rattle.std.specs.Vec.{with_item}
use Rattle.clk_packet.specs.declared.packet.Packet.{Packet}
use Rattle.clk_sched.specs.declared.session.state.State.{State}
use Rattle.clk_sched.specs.declared.session.inputs.Input.TheVariants.{Queue}
use Rattle.clk_sched.specs.declared.session.nodes.Nodes.{Nodes}
use Rattle.clk_packet.specs.Scheduler.{Scheduler}
use Rattle.clk_sched.specs.inside.Holds.OfClass.{Fits}
use Rattle.clk_sched.specs.Log.{asking}
use Rattle.clk_sched.specs.Answers.{Answers}
use Rattle.clk_sched.specs.inside.Places.{edges_of, edges_at, edges_in, input_at, queue_asked}
use Rattle.clk_sched.specs.inside.Logged.{with_idle}
use Rattle.clk_sched.specs.inside.Pulling.{CanPull, Keeps, Pulls, AsksAll, TakesTurn, added, now_of, asked_in_order}

-- these nodes, of which one holds this state
abbrev pub with_state : Nodes → ℕ → State → Nodes
with_state a x s = record { inputs = a.inputs; states = with_item a.states x s; log = a.log; pull = a.pull; moment = a.moment }

-- these nodes, with the visits of so many inputs of a node from one on, which gave nothing
abbrev pub with_idle_at : Nodes → ℕ → ℕ → ℕ → Nodes
with_idle_at a x first count =
    record { inputs = a.inputs; states = a.states; log = with_idle a.log (record { pull = a.pull; moment = a.moment; node = x; first = first; count = count }); pull = a.pull; moment = a.moment }

-- A node was pulled: what stays, what the queues gave, and what it made of that.
pub record WasPulled {S : Type 0} (gives : S → ℕ → Option Packet → S → Type 0) (old new : Nodes) (before now : S) (x : ℕ) (got : Option Packet) : Type 0 where
  pub keeps : Keeps x old new (edges_of old.inputs.items x)
  pub answers : Answers gives (queue_asked old.inputs.items) before (added old new) now
  pub pulls : Pulls old new x got

-- A node had its turn with one state, and holds another after it, wherever the state stands during the turn.
pub record HadTurn {S : Type 0} (gives : S → ℕ → Option Packet → S → Type 0) (old new : Nodes) (before now : S) (x : ℕ) (held holds : State) (got : Option Packet) : Type 0 where
  pub keeps : Keeps x old new (edges_of old.inputs.items x)
  pub answers : Answers gives (queue_asked old.inputs.items) before (added old new) now
  pub fits : IfSome (slice_get old.inputs.items x) (λ p. Fits holds (length p.each.items))
  pub turn : (class : Scheduler) → TakesTurn old new x class held holds got

-- At an input of a node stands a queue that may give nothing, and then stays as it is.
pub record IsIdle {S : Type 0} (gives : S → ℕ → Option Packet → S → Type 0) (n : Nodes) (q : S) (x i : ℕ) : Type 0 where
  pub leaf : ℕ
  pub stands : input_at n.inputs.items x i ≡ Some (Queue leaf)
  pub gives_none : gives q leaf None q

-- A node asked one of its inputs, and recorded the visit.
pub record HasAsked {S : Type 0} (gives : S → ℕ → Option Packet → S → Type 0) (old new : Nodes) (before now : S) (x i : ℕ) (got : Option Packet) : Type 0 where
  pub keeps : Keeps (suc x) old new (edges_at old.inputs.items x i)
  pub answers : Answers gives (queue_asked old.inputs.items) before (added old new) now
  pub asks : AsksAll old new x (i ∷ []) (asking old.pull old.moment x i got ∷ [])

-- A node asked its inputs in this order, up to the place at which a packet was given.
pub record HasAskedAll {S : Type 0} (gives : S → ℕ → Option Packet → S → Type 0) (old new : Nodes) (before now : S) (x : ℕ) (order : List ℕ) (given : Option (ℕ × Packet)) : Type 0 where
  pub keeps : Keeps (suc x) old new (edges_in old.inputs.items x order)
  pub answers : Answers gives (queue_asked old.inputs.items) before (added old new) now
  pub asks : AsksAll old new x order (asked_in_order (now_of old) x order given)

-- A node is in its turn, which began with the nodes `first` and this state. It asked so many inputs at the front of an order, which gave
-- nothing, and its state is in its place.
pub record MayAskOn {S : Type 0} (gives : S → ℕ → Option Packet → S → Type 0) (n : Nodes) (q : S) (x : ℕ) (state : State) (order : List ℕ) (asked : ℕ) : Type 0 where
  pub first : Nodes
  pub before : S
  pub can : CanPull first x (edges_of first.inputs.items x)
  pub begun : slice_get first.states.items x ≡ Some state
  pub stays : slice_get n.states.items x ≡ Some state
  pub within : asked ≤ length order
  pub in_vain : HasAskedAll gives first n before q x (take asked order) None
