-- Where nodes stand in the tables of a session, and what stands at their inputs.
use Rattle.std.specs.Prelude.{◌≡◌, ℕ, ◌+◌, ◌<◌, ◌≤◌, List, [], ◌∷◌, length, suc, ⊤, Option, Some, None, MatchOption, slice_get, if◌then◌else◌}
use Rattle.std.specs.List.{AllByRecursion}
use Rattle.clk_packet.specs.declared.limits.TheConstants.{MAX_INPUTS}
use Rattle.clk_sched.specs.declared.visit.Visit.{Visit}
use Rattle.clk_sched.specs.declared.session.inputs.Input.{Input}
use Rattle.clk_sched.specs.declared.session.inputs.Input.TheVariants.{Queue, Node}
use Rattle.clk_sched.specs.declared.session.inputs.Below.{Below}
use Rattle.clk_sched.specs.declared.session.inputs.Inputs.{Inputs}
use Rattle.clk_sched.specs.declared.session.state.State.{State}
use Rattle.clk_sched.specs.Tree.{Row, end, leaf, node, nodes}
use Rattle.clk_sched.specs.inside.Holds.OfClass.{Fits}

-- the inputs of a row whose schedulers are numbered from `next` on
abbrev pub inputs_of : ℕ → Row → List Input
inputs_of next end = []
inputs_of next (leaf q row) = Queue q ∷ inputs_of next row
inputs_of next (node class inputs row) = Node next ∷ inputs_of (suc (next + nodes inputs)) row

-- the inputs of a node are those of a row
abbrev pub HasInputs : List Inputs → ℕ → Row → Type 0
HasInputs table x row = MatchOption (slice_get table x) ⊥ (λ p. p.each.items ≡ inputs_of (suc x) row)

-- each scheduler of a row, which are numbered from `next` on, has its inputs in the table
abbrev pub EachHasInputs : List Inputs → ℕ → Row → Type 0
EachHasInputs table next end = ⊤
EachHasInputs table next (leaf q row) = EachHasInputs table next row
EachHasInputs table next (node class inputs row) =
    HasInputs table next inputs × EachHasInputs table (suc next) inputs × EachHasInputs table (suc (next + nodes inputs)) row

-- a node stands in the table with all that is below it
pub record StandsIn (table : List Inputs) (x : ℕ) (row : Row) : Type 0 where
  pub here : HasInputs table x row
  pub below : EachHasInputs table (suc x) row

abbrev pub option_edges : Option Inputs → ℕ
option_edges None = 0
option_edges (Some p) = p.edges

-- how many edges there are from a node and below it
abbrev pub edges_of : List Inputs → ℕ → ℕ
edges_of table x = option_edges (slice_get table x)

-- the edge to what stands at an input, and those below that
abbrev pub edges_to : List Inputs → Input → ℕ
edges_to table (Queue q) = 1
edges_to table (Node m) = suc (edges_of table m)

abbrev pub edges_to_all : List Inputs → List Input → ℕ
edges_to_all table [] = 0
edges_to_all table (i ∷ inputs) = edges_to table i + edges_to_all table inputs

abbrev pub option_input : Option Inputs → ℕ → Option Input
option_input None i = None
option_input (Some p) i = slice_get p.each.items i

-- what stands at an input of a node
abbrev pub input_at : List Inputs → ℕ → ℕ → Option Input
input_at table x i = option_input (slice_get table x) i

abbrev pub option_edges_to : List Inputs → Option Input → ℕ
option_edges_to table None = 0
option_edges_to table (Some input) = edges_to table input

-- the edge from a node to what stands at an input, and those below
abbrev pub edges_at : List Inputs → ℕ → ℕ → ℕ
edges_at table x i = option_edges_to table (input_at table x i)

-- the edges from a node to some of its inputs, and those below
abbrev pub edges_in : List Inputs → ℕ → List ℕ → ℕ
edges_in table x [] = 0
edges_in table x (i ∷ order) = edges_at table x i + edges_in table x order

-- a scheduler stands in the table, after the node that it is below
abbrev pub IsAfter : ℕ → ℕ → Input → Type 0
IsAfter size x (Queue q) = ⊤
IsAfter size x (Node m) = (x < m) × (m < size)

-- what a table says of what is below a node
abbrev pub below_of : Inputs → Below
below_of p = record { edges = p.edges; nodes = p.nodes; first = p.first; last = p.last }

-- What stands at an input is within what a table says of the node above it, node x: leaves, and node numbers.
abbrev pub IsWithin : List Inputs → ℕ → Below → Input → Type 0
IsWithin table x below (Queue q) = (below.first ≤ q) × (q ≤ below.last)
IsWithin table x below (Node m) =
    MatchOption (slice_get table m) ⊥ (λ (p : Inputs). (below.first ≤ p.first) × (p.last ≤ below.last) × (m + p.nodes ≤ x + below.nodes))

-- Each node of a table has schedulers after it at its inputs, and says how many edges there are from it and below, and what is below.
pub record IsWired (table : List Inputs) (x : ℕ) (p : Inputs) : Type 0 where
  pub few : length p.each.items ≤ MAX_INPUTS
  pub after : AllByRecursion (IsAfter (length table) x) p.each.items
  pub edges : p.edges ≡ edges_to_all table p.each.items
  pub within : AllByRecursion (IsWithin table x (below_of p)) p.each.items
  pub last : x + (below_of p).nodes < length table

abbrev pub AreWired : List Inputs → Type 0
AreWired table = (x : ℕ) (p : Inputs) → slice_get table x ≡ Some p → IsWired table x p

-- each node has a state that fits its inputs
pub record AllFit (table : List Inputs) (states : List State) : Type 0 where
  pub lengths : length states ≡ length table
  pub each : (x : ℕ) (p : Inputs) (s : State) → slice_get table x ≡ Some p → slice_get states x ≡ Some s → Fits s (length p.each.items)

-- the queue at an input, if one stands there
abbrev pub queue_of : Option Input → Option ℕ
queue_of None = None
queue_of (Some (Queue q)) = Some q
queue_of (Some (Node m)) = None

-- the queue that a visit asked, if it asked one
abbrev pub queue_asked : List Inputs → Visit → Option ℕ
queue_asked table v = if v.fresh then queue_of (input_at table v.node v.input) else None
