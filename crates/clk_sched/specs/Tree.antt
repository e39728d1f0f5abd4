-- Trees of schedulers over queues, below a device that has one input.
use Rattle.std.specs.Prelude.{ℕ, ◌+◌, ◌≤◌, ◌==◌, ◌&&◌, ◌++◌, Bool, List, [], ◌∷◌, ⊤, Option, Some, None, suc, max, if◌then◌else◌}
use Rattle.std.specs.Option.{option_or}
use Rattle.clk_packet.specs.Lists.{are_distinct}
use Rattle.clk_packet.specs.Scheduler.{Scheduler, HasArguments}
use Rattle.clk_packet.specs.declared.limits.TheConstants.{MAX_INPUTS}

-- Inputs in order, and what stands at each: a queue, by its number, or a scheduler with inputs of its own.
pub data Row : Type 0 where
  end : Row
  leaf : ℕ → Row → Row
  node : Scheduler → Row → Row → Row

-- a tree: a queue alone, or a scheduler with its inputs
pub data Tree : Type 0 where
  queue : ℕ → Tree
  scheduler : Scheduler → Row → Tree

-- the row of the device, which has one input
abbrev pub root : Tree → Row
root (queue q) = leaf q end
root (scheduler class inputs) = node class inputs end

-- how many inputs a row has
abbrev pub width : Row → ℕ
width end = 0
width (leaf q row) = suc (width row)
width (node class inputs row) = suc (width row)

-- How many schedulers stand in a row. The device is node 0, and schedulers are numbered from 1, each before its inputs (this project's own
-- choice).
abbrev pub nodes : Row → ℕ
nodes end = 0
nodes (leaf q row) = nodes row
nodes (node class inputs row) = suc (nodes inputs + nodes row)

-- A scheduler where it stands in a tree: its number, its class and its inputs, and the node above it, with the input at which it stands there.
pub record PlacedScheduler : Type 0 where
  pub above : ℕ
  pub input : ℕ
  pub number : ℕ
  pub class : Scheduler
  pub inputs : Row

-- The schedulers in a row whose inputs are those of node `above` from `first` on. They are numbered from `next` on.
abbrev pub schedulers_in : ℕ → ℕ → ℕ → Row → List PlacedScheduler
schedulers_in above first next end = []
schedulers_in above first next (leaf q row) = schedulers_in above (suc first) next row
schedulers_in above first next (node class inputs row) =
    record { above = above; input = first; number = next; class = class; inputs = inputs }
    ∷ (schedulers_in next 0 (suc next) inputs ++ schedulers_in above (suc first) (suc (next + nodes inputs)) row)

-- all schedulers of a tree, by number
abbrev pub schedulers_of : Tree → List PlacedScheduler
schedulers_of tree = schedulers_in 0 0 1 (root tree)

-- The queue at an input of node `x`, in a row whose inputs are those of node `above` from `first` on. Its schedulers are numbered from
-- `next` on.
abbrev pub queue_in : ℕ → ℕ → ℕ → Row → ℕ → ℕ → Option ℕ
queue_in above first next end x input = None
queue_in above first next (leaf q row) x input =
    if (above == x) && (first == input) then Some q else queue_in above (suc first) next row x input
queue_in above first next (node class inputs row) x input =
    option_or (queue_in next 0 (suc next) inputs x input) (queue_in above (suc first) (suc (next + nodes inputs)) row x input)

-- the queue at this input of this node of a tree, if a queue stands there
abbrev pub queue_at : Tree → ℕ → ℕ → Option ℕ
queue_at tree x input = queue_in 0 0 1 (root tree) x input

-- the queues in a row, from the left
abbrev pub leaves : Row → List ℕ
leaves end = []
leaves (leaf q row) = q ∷ leaves row
leaves (node class inputs row) = leaves inputs ++ leaves row

-- no queue stands twice in a tree
abbrev pub leaves_distinct : Tree → Bool
leaves_distinct tree = are_distinct (leaves (root tree))

-- Each scheduler of a row has at least one input, and arguments within their limits. A DRRSched has a quantum for each input, a StrideSched
-- has tickets for each, and a Shaper has one input.
abbrev pub IsSound : Row → Type 0
IsSound end = ⊤
IsSound (leaf q row) = IsSound row
IsSound (node class inputs row) = (1 ≤ width inputs) × HasArguments class (width inputs) × IsSound inputs × IsSound row

-- Each scheduler of a row has from 1 to `MAX_INPUTS` inputs, and arguments within their limits. Every `Tree` of the code is well formed.
abbrev pub IsWellFormed : Row → Type 0
IsWellFormed end = ⊤
IsWellFormed (leaf q row) = IsWellFormed row
IsWellFormed (node class inputs row) = ((1 ≤ width inputs) × (width inputs ≤ MAX_INPUTS)) × HasArguments class (width inputs) × IsWellFormed inputs × IsWellFormed row

-- how many schedulers stand on the longest path through a row
abbrev pub height : Row → ℕ
height end = 0
height (leaf q row) = height row
height (node class inputs row) = max (suc (height inputs)) (height row)
