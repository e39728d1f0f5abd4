-- How a tree is built from the elements of a plan.
use Rattle.std.specs.Prelude.{◌≡◌, ◌≤◌, ◌⊎◌, ℕ, List, [], length, Bool, true, false, if◌then◌else◌, Option, Some, None, option_and_then, MatchOption, Result, zero, suc, slice_get}
use Rattle.std.specs.Option.{option_map_or}
use Rattle.std.specs.List.{AllByRecursion}
use Rattle.clk_packet.specs.declared.fault.Fault.{Fault}
use Rattle.clk_packet.specs.declared.limits.TheConstants.{MAX_INPUTS}
use Rattle.clk_packet.specs.Scheduler.{Scheduler, HasArguments}
use Rattle.clk_sched.specs.Tree.{Tree}
use Rattle.clk_sched.specs.Built.{built}
use Rattle.clk_syntax.specs.Classes.{Class}
use Rattle.clk_tree.specs.Plan.{Planned}
use Rattle.clk_tree.specs.PlanTree.{is_queue, scheduler_over}

-- The arguments of a scheduler's class fit so many inputs.
abbrev pub FitsInputs : ℕ → Option Scheduler → Type 0
FitsInputs inputs None = ⊥
FitsInputs inputs (Some class) = HasArguments class inputs

-- A class can be that of a scheduler over so many inputs: there is at least one, they are within the limit, and its arguments fit them.
pub record IsOver (class : Class) (inputs : ℕ) : Type 0 where
  pub some : 1 ≤ inputs
  pub within : inputs ≤ MAX_INPUTS
  pub fits : FitsInputs inputs (scheduler_over class inputs)

-- the result of the constructor of a class over these trees
abbrev pub IsBuilt : Class → List Tree → Result Tree Fault → Type 0
IsBuilt class children result = MatchOption (scheduler_over class (length children)) ⊥ (λ over. result ≡ built over children)

abbrev pub is_queue_at : Option Planned → Bool
is_queue_at None = false
is_queue_at (Some e) = is_queue e.class

-- An element is a queue, or a scheduler over such elements with no more than so many schedulers on a path down, itself among them.
abbrev pub IsScheduled : List Planned → ℕ → ℕ → Type 0
IsScheduled plan zero s = is_queue_at (slice_get plan s) ≡ true
IsScheduled plan (suc levels) s =
    (is_queue_at (slice_get plan s) ≡ true) ⊎ MatchOption (slice_get plan s) ⊥ (λ e. IsOver e.class (length e.sources) × AllByRecursion (IsScheduled plan levels) e.sources)

-- this number, if the element is a queue
abbrev pub number_if : ℕ → Option Planned → Option ℕ
number_if n o = option_and_then (λ (e : Planned). if is_queue e.class then Some n else None) o

-- what is connected to an element, if there is one
abbrev pub sources_at : Option Planned → List ℕ
sources_at o = option_map_or (λ e. e.sources) o []
