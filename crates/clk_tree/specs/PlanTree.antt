-- The trees of a plan, one for each device (node and leaf numbers as this project chose them).
use Rattle.std.specs.Prelude.{◌≡◌, ℕ, ◌+◌, List, [], ◌∷◌, length, take, Bool, true, false, if◌then◌else◌, Option, Some, None, option_and_then, ⊤, slice_get, get_or}
use Rattle.std.specs.Option.{option_map_or}
use Rattle.clk_sched.specs.Tree.{Row, end, leaf, node, Tree, root}
use Rattle.clk_packet.specs.Scheduler.{Scheduler, over_inputs}
use Rattle.clk_syntax.specs.Classes.{Class, queue, scheduler, device}
use Rattle.clk_tree.specs.Plan.{Planned}

-- whether this is the class of a queue
abbrev pub is_queue : Class → Bool
is_queue (queue kind capacity) = true
is_queue class = false

-- whether this is the class of a device
abbrev pub is_device : Class → Bool
is_device (device word) = true
is_device class = false

-- how many queues are among these elements
abbrev pub queue_count : List Planned → ℕ
queue_count [] = 0
queue_count (e ∷ more) = if is_queue e.class then queue_count more + 1 else queue_count more

-- The number of the queue that stands at a place: queues are numbered from 0 in order of declaration.
abbrev pub queue_number : List Planned → ℕ → Option ℕ
queue_number plan i = option_and_then (λ (e : Planned). if is_queue e.class then Some (queue_count (take i plan)) else None) (slice_get plan i)

-- the scheduler of this class over so many inputs, if it is the class of a scheduler
abbrev pub scheduler_over : Class → ℕ → Option Scheduler
scheduler_over (scheduler s) inputs = Some (over_inputs s inputs)
scheduler_over class inputs = None

-- The element of a plan that a node of a tree stands for: a scheduler of the node's class, with arguments for as many inputs as it has.
abbrev pub IsNode : Scheduler → Option Planned → Type 0
IsNode class None = ⊥
IsNode class (Some e) = scheduler_over e.class (length e.sources) ≡ Some class

-- What stands at inputs to which these elements are connected: at each a queue, by its number, or a scheduler over its own inputs.
abbrev pub IsRowOf : List Planned → List ℕ → Row → Type 0
IsRowOf plan [] end = ⊤
IsRowOf plan (s ∷ more) (leaf q row) = (queue_number plan s ≡ Some q) × IsRowOf plan more row
IsRowOf plan (s ∷ more) (node class inputs row) =
    IsNode class (slice_get plan s) × IsRowOf plan (option_map_or (λ e. e.sources) (slice_get plan s) []) inputs × IsRowOf plan more row
IsRowOf plan sources row = ⊥

-- what is connected to each device: devices are numbered from 0 in order of declaration
abbrev pub device_sources : List Planned → List (List ℕ)
device_sources [] = []
device_sources (e ∷ more) = if is_device e.class then e.sources ∷ device_sources more else device_sources more

-- how many devices a plan has
abbrev pub device_count : List Planned → ℕ
device_count plan = length (device_sources plan)

-- the tree of the device of this number in a plan: it stands at the device's input
abbrev pub IsTreeOf : List Planned → ℕ → Tree → Type 0
IsTreeOf plan d t = IsRowOf plan (get_or (device_sources plan) d []) (root t)
