-- Which warnings a plan has (this project's own choice).
use Rattle.std.specs.Prelude.{ℕ, ◌+◌, ◌==◌, ◌&&◌, ◌||◌, zero, suc, not, nat_lt, Bool, true, false, if◌then◌else◌, List, [], ◌∷◌, ◌++◌, length, take, Option, Some, None, slice_get}
use Rattle.std.specs.List.{flat_map}
use Rattle.clk_sched.specs.Laws.Deficit.{quantum_at}
use Rattle.clk_sched.specs.Laws.Stride.{stride_of}
use Rattle.clk_packet.specs.Scheduler.{Scheduler, prio, drr, stride, shaper}
use Rattle.clk_syntax.specs.Classes.{Class, sender, queue, scheduler}
use Rattle.clk_tree.specs.Plan.{Planned}
use Rattle.clk_tree.specs.PlanTree.{is_device}
use Rattle.clk_lint.specs.declared.warning.Warning.{Warning}
use Rattle.clk_lint.specs.declared.warning.Warning.TheVariants.{SmallQuantum, SmallBurst, UnusedQueue, SameStride, OneInput, SmallQueue}
use Rattle.clk_lint.specs.Load.{Trace, longest_below, burst_of}

-- where an element stands: its place, from 0 in order of declaration, and whether a PrioSched prefers it, or an element that it is below,
-- to another input
pub record Spot : Type 0 where
  pub place : ℕ
  pub preferred : Bool

-- a warning, if the test is true
abbrev pub if_so : Bool → Warning → List Warning
if_so true warning = warning ∷ []
if_so false warning = []

-- the quantum of an input, by the quanta of a DRRSched: one quantum is for each input
abbrev pub quantum_for : (quanta : List ℕ) → ℕ → ℕ
quantum_for (quantum ∷ []) input = quantum
quantum_for quanta input = quantum_at quanta input

-- Quanta below the longest packet that reaches their input, those of a DRRSched's inputs from this one on. `longest` is its length, by the
-- place of the element that is connected to the input.
abbrev pub quantum_warnings : Spot → (longest : ℕ → ℕ) → (quanta : List ℕ) → (input : ℕ) → (sources : List ℕ) → List Warning
quantum_warnings at longest quanta input [] = []
quantum_warnings at longest quanta input (s ∷ more) =
    if_so (nat_lt (quantum_for quanta input) (longest s)) (SmallQuantum at.place input (quantum_for quanta input) (longest s) at.preferred)
    ++ quantum_warnings at longest quanta (input + 1) more

-- whether numbers of tickets differ, and their strides don't
abbrev pub share_stride : ℕ → ℕ → Bool
share_stride tickets other = not (tickets == other) && (stride_of tickets == stride_of other)

-- the first of some inputs, counted from this one on, that has other tickets than these and the same stride
abbrev pub twin_of : (tickets input : ℕ) → List ℕ → Option ℕ
twin_of tickets input [] = None
twin_of tickets input (other ∷ more) = if share_stride tickets other then Some input else twin_of tickets (input + 1) more

-- the warning of an input of a StrideSched, if an earlier input has the same stride
abbrev pub stride_warning : (place input tickets : ℕ) → Option ℕ → List Warning
stride_warning place input tickets None = []
stride_warning place input tickets (Some other) = SameStride place input other (stride_of tickets) ∷ []

-- Tickets whose strides round to one value, those of a StrideSched's inputs from this one on: each is compared with all before it.
abbrev pub stride_warnings : ℕ → (all : List ℕ) → ℕ → (from : List ℕ) → List Warning
stride_warnings place all input [] = []
stride_warnings place all input (tickets ∷ more) =
    stride_warning place input tickets (twin_of tickets 0 (take input all)) ++ stride_warnings place all (input + 1) more

-- A scheduler with one input.
abbrev pub lone_warnings : ℕ → (sources : List ℕ) → List Warning
lone_warnings place (s ∷ []) = OneInput place ∷ []
lone_warnings place sources = []

-- A queue that nobody sends to.
abbrev pub unused_warnings : ℕ → (sources : List ℕ) → List Warning
unused_warnings place [] = UnusedQueue place ∷ []
unused_warnings place sources = []

-- A queue that holds fewer packets than one of its senders may offer at once.
abbrev pub sender_warnings : Trace → (place capacity : ℕ) → Class → List Warning
sender_warnings trace place capacity (sender n) = if_so (nat_lt capacity (burst_of trace n)) (SmallQueue place capacity n (burst_of trace n))
sender_warnings trace place capacity class = []

abbrev pub sender_warnings_at : Trace → (place capacity : ℕ) → Option Planned → List Warning
sender_warnings_at trace place capacity None = []
sender_warnings_at trace place capacity (Some e) = sender_warnings trace place capacity e.class

-- the warnings of a scheduler to which these elements are connected; `longest` is the length of the longest packet that an element sends on
abbrev pub scheduler_warnings : Spot → (longest : ℕ → ℕ) → (sources : List ℕ) → Scheduler → List Warning
scheduler_warnings at longest sources (drr quanta) = quantum_warnings at longest quanta 0 sources ++ lone_warnings at.place sources
scheduler_warnings at longest sources (stride tickets) = stride_warnings at.place tickets 0 tickets ++ lone_warnings at.place sources
scheduler_warnings at longest sources (shaper rate burst) = if_so (nat_lt burst rate) (SmallBurst at.place rate burst)
scheduler_warnings at longest sources s = lone_warnings at.place sources

-- the warnings of an element of a class, to which these elements are connected
abbrev pub class_warnings : List Planned → Trace → Spot → (sources : List ℕ) → Class → List Warning
class_warnings plan trace at sources (queue kind capacity) =
    unused_warnings at.place sources ++ flat_map (λ s. sender_warnings_at trace at.place capacity (slice_get plan s)) sources
class_warnings plan trace at sources (scheduler s) = scheduler_warnings at (longest_below plan trace) sources s
class_warnings plan trace at sources class = []

-- whether a scheduler prefers an input to one of these, which come after it
abbrev pub prefers : Class → (after : List ℕ) → Bool
prefers (scheduler prio) (s ∷ more) = true
prefers class after = false

-- the warnings of all that is connected to the inputs of an element, by those of each
abbrev pub input_warnings : (Spot → List Warning) → Bool → Class → (sources : List ℕ) → List Warning
input_warnings below preferred class [] = []
input_warnings below preferred class (s ∷ more) =
    below (record { place = s; preferred = preferred || prefers class more }) ++ input_warnings below preferred class more

-- the warnings of an element and then of all that is connected to it, by those of each
abbrev pub element_warnings : List Planned → Trace → Spot → (Spot → List Warning) → Option Planned → List Warning
element_warnings plan trace at below None = []
element_warnings plan trace at below (Some e) = class_warnings plan trace at e.sources e.class ++ input_warnings below at.preferred e.class e.sources

-- The warnings of an element and of all that lead to it, in preorder, in so many levels.
abbrev pub warnings_at : List Planned → Trace → (levels : ℕ) → Spot → List Warning
warnings_at plan trace zero at = []
warnings_at plan trace (suc levels) at = element_warnings plan trace at (warnings_at plan trace levels) (slice_get plan at.place)

-- the warnings of a device and of all that lead to it; no path has more elements than the plan
abbrev pub device_warnings : List Planned → Trace → ℕ → Class → List Warning
device_warnings plan trace place class =
    if is_device class then warnings_at plan trace (length plan) (record { place = place; preferred = false }) else []

-- the warnings of the devices among the elements from a place on
abbrev pub warnings_from : List Planned → Trace → ℕ → List Planned → List Warning
warnings_from plan trace place [] = []
warnings_from plan trace place (e ∷ more) = device_warnings plan trace place e.class ++ warnings_from plan trace (place + 1) more

-- The warnings of a plan, and of a trace if there is one: by device, and below it in preorder.
abbrev pub warnings : List Planned → Trace → List Warning
warnings plan trace = warnings_from plan trace 0 plan
