-- How a tree is laid out in tables by node number.
use Rattle.std.specs.Prelude.{◌≡◌, ℕ, ◌+◌, ◌≤◌, List, [], ◌∷◌, ◌++◌, length, map, max, min, suc, ⊤}
use Rattle.clk_packet.specs.declared.limits.TheConstants.{MAX_INPUTS}
use Rattle.clk_sched.specs.declared.session.inputs.Input.{Input}
use Rattle.clk_sched.specs.declared.session.inputs.Input.TheVariants.{Queue, Node}
use Rattle.clk_sched.specs.declared.session.inputs.Below.{Below}
use Rattle.clk_sched.specs.declared.session.inputs.Inputs.{Inputs}
use Rattle.clk_sched.specs.declared.session.layout.Tables.{Tables}
use Rattle.clk_sched.specs.declared.session.state.State.{State}
use Rattle.clk_packet.specs.Scheduler.{Scheduler, HasArguments}
use Rattle.clk_sched.specs.Tree.{Row, end, leaf, node, Tree, queue, scheduler, nodes, width}
use Rattle.clk_sched.specs.inside.Places.{inputs_of, below_of}
use Rattle.clk_sched.specs.Session.{elements}
use Rattle.clk_sched.specs.inside.Holds.OfClass.{Holds}

-- how many queues and schedulers a tree has
abbrev pub elements_of : Tree → ℕ
elements_of (queue q) = 1
elements_of (scheduler class inputs) = suc (elements inputs)

-- how many schedulers a tree has
abbrev pub nodes_of : Tree → ℕ
nodes_of (queue q) = 0
nodes_of (scheduler class inputs) = suc (nodes inputs)

-- what stands at an input for a tree whose schedulers are numbered from `next` on
abbrev pub input_of : ℕ → Tree → Input
input_of next (queue q) = Queue q
input_of next (scheduler class inputs) = Node next

-- the least leaf of a row, and the greatest
abbrev pub first_leaf : Row → ℕ
first_leaf end = 65535
first_leaf (leaf q row) = min q (first_leaf row)
first_leaf (node class inputs row) = min (first_leaf inputs) (first_leaf row)

abbrev pub last_leaf : Row → ℕ
last_leaf end = 0
last_leaf (leaf q row) = max q (last_leaf row)
last_leaf (node class inputs row) = max (last_leaf inputs) (last_leaf row)

-- what is below a node over a row: each queue and each scheduler below has one edge to it
abbrev pub below_row : Row → Below
below_row row = record { edges = elements row; nodes = nodes row; first = first_leaf row; last = last_leaf row }

-- what is at an input and below it, if this tree stands there
abbrev pub below_tree : Tree → Below
below_tree (queue q) = record { edges = 1; nodes = 0; first = q; last = q }
below_tree (scheduler class inputs) = record { edges = suc (elements inputs); nodes = suc (nodes inputs); first = first_leaf inputs; last = last_leaf inputs }

-- What a table says of a node: what stands at its inputs, and what is below it.
abbrev pub Entry : Type 0
Entry = List Input × Below

abbrev pub entry : Inputs → Entry
entry p = (p.each.items, below_of p)

-- the entry of node `next` over a row
abbrev pub entry_over : ℕ → Row → Entry
entry_over next inputs = (inputs_of (suc next) inputs, below_row inputs)

-- the entries of the schedulers of a row, which are numbered from `next` on
abbrev pub entries : ℕ → Row → List Entry
entries next end = []
entries next (leaf q row) = entries next row
entries next (node class inputs row) = entry_over next inputs ∷ (entries (suc next) inputs ++ entries (suc (next + nodes inputs)) row)

-- the entries of the schedulers of a tree, which are numbered from `next` on
abbrev pub entries_of : ℕ → Tree → List Entry
entries_of next (queue q) = []
entries_of next (scheduler class inputs) = entry_over next inputs ∷ entries (suc next) inputs

-- the class of a node, and how many inputs it has
abbrev pub Kind : Type 0
Kind = Scheduler × ℕ

-- the kinds of the schedulers of a row, by number
abbrev pub kinds : Row → List Kind
kinds end = []
kinds (leaf q row) = kinds row
kinds (node class inputs row) = (class, width inputs) ∷ (kinds inputs ++ kinds row)

-- the kinds of the schedulers of a tree, by number
abbrev pub kinds_of : Tree → List Kind
kinds_of (queue q) = []
kinds_of (scheduler class inputs) = (class, width inputs) ∷ kinds inputs

-- each node of these kinds holds what it does before its first turn
abbrev pub AreFirst : List Kind → List State → Type 0
AreFirst [] [] = ⊤
AreFirst [] (s ∷ states) = ⊥
AreFirst (k ∷ kinds) [] = ⊥
AreFirst (k ∷ kinds) (s ∷ states) = Holds k.0 k.1 [] s × AreFirst kinds states

-- Nodes with these entries, and of these kinds, were added to tables.
pub record Adds (old new : Tables) (more : List Entry) (added : List Kind) : Type 0 where
  pub inputs : map entry new.inputs.items ≡ map entry old.inputs.items ++ more
  pub states : (before : List Kind) → AreFirst before old.states.items → AreFirst (before ++ added) new.states.items

-- A node that holds this was added to tables, with those below it: it stands over a row.
abbrev pub AddsNode : Tables → Tables → State → Row → Type 0
AddsNode old new state row =
    (class : Scheduler) → Holds class (width row) [] state
    → Adds old new (entry_over (length old.inputs.items) row ∷ entries (suc (length old.inputs.items)) row) ((class, width row) ∷ kinds row)

-- the arguments of a class are those of a scheduler over some inputs
pub record FitsInputs (class : Scheduler) : Type 0 where
  pub inputs : ℕ
  pub some : 1 ≤ inputs
  pub few : inputs ≤ MAX_INPUTS
  pub arguments : HasArguments class inputs
