-- The schedulers: their names in a tree text, and their arguments (Click's element reference; limits as this project chose them).
use Rattle.std.specs.Prelude.{◌≡◌, ℕ, ◌≤◌, List, [], ◌∷◌, length, replicate, Option, Some, None, if◌then◌else◌, codes, ⊤}
use Rattle.std.specs.List.{AllByRecursion}
use Rattle.std.specs.Str.{bytes_eq}
use Rattle.clk_packet.specs.declared.limits.TheConstants.{MAX_QUANTUM, MAX_TICKETS, MAX_RATE, MAX_BURST, DEFAULT_QUANTUM}
use Rattle.clk_packet.specs.declared.scheduler.SchedulerName.{SchedulerName}
use Rattle.clk_packet.specs.declared.scheduler.SchedulerName.TheVariants as named
use Rattle.clk_packet.specs.declared.scheduler.Scheduler as declared
use Rattle.clk_packet.specs.declared.scheduler.Scheduler.TheVariants as kept

-- A scheduler with its arguments: quanta in bytes, tickets, or a rate in packets a tick and a burst in packets.
pub data Scheduler : Type 0 where
  prio : Scheduler
  round_robin : Scheduler
  drr : List ℕ → Scheduler
  stride : List ℕ → Scheduler
  shaper : ℕ → ℕ → Scheduler

-- a scheduler as the code keeps it
abbrev pub scheduler_view : declared.Scheduler → Scheduler
scheduler_view kept.Prio = prio
scheduler_view kept.RoundRobin = round_robin
scheduler_view (kept.Drr quanta) = drr quanta.items
scheduler_view (kept.Stride tickets) = stride tickets.items
scheduler_view (kept.Shaper rate burst) = shaper rate burst

-- the name of a scheduler
abbrev pub name_of : Scheduler → SchedulerName
name_of prio = named.Prio
name_of round_robin = named.RoundRobin
name_of (drr quanta) = named.Drr
name_of (stride tickets) = named.Stride
name_of (shaper rate burst) = named.Shaper

-- how a tree text spells a name
abbrev pub name_text : SchedulerName → List ℕ
name_text named.Prio = codes "PrioSched"
name_text named.RoundRobin = codes "RoundRobinSched"
name_text named.Drr = codes "DRRSched"
name_text named.Stride = codes "StrideSched"
name_text named.Shaper = codes "Shaper"

-- the name that a word spells, if it spells one
abbrev pub scheduler_named : List ℕ → Option SchedulerName
scheduler_named word =
    if bytes_eq word (name_text named.Prio) then Some named.Prio
    else if bytes_eq word (name_text named.RoundRobin) then Some named.RoundRobin
    else if bytes_eq word (name_text named.Drr) then Some named.Drr
    else if bytes_eq word (name_text named.Stride) then Some named.Stride
    else if bytes_eq word (name_text named.Shaper) then Some named.Shaper
    else None

-- the arguments of a scheduler, all of them
abbrev pub arguments_of : Scheduler → List ℕ
arguments_of prio = []
arguments_of round_robin = []
arguments_of (drr quanta) = quanta
arguments_of (stride tickets) = tickets
arguments_of (shaper rate burst) = rate ∷ burst ∷ []

-- The greatest argument of a scheduler. The least is 1. Rate and burst of a Shaper have one limit.
abbrev pub most_argument : SchedulerName → ℕ
most_argument named.Prio = 0
most_argument named.RoundRobin = 0
most_argument named.Drr = MAX_QUANTUM
most_argument named.Stride = MAX_TICKETS
most_argument named.Shaper = MAX_RATE

-- A scheduler with these arguments, if it takes so many. A DRRSched without any has the default quantum, and a Shaper with one has its rate
-- as its burst.
abbrev pub scheduler_with : SchedulerName → List ℕ → Option Scheduler
scheduler_with named.Prio [] = Some prio
scheduler_with named.RoundRobin [] = Some round_robin
scheduler_with named.Drr [] = Some (drr (DEFAULT_QUANTUM ∷ []))
scheduler_with named.Drr (quantum ∷ more) = Some (drr (quantum ∷ more))
scheduler_with named.Stride (tickets ∷ more) = Some (stride (tickets ∷ more))
scheduler_with named.Shaper (rate ∷ []) = Some (shaper rate rate)
scheduler_with named.Shaper (rate ∷ burst ∷ []) = Some (shaper rate burst)
scheduler_with name numbers = None

-- One quantum is for each input, as many as are connected; two or more are for as many inputs.
abbrev pub inputs_of_quanta : List ℕ → Option ℕ
inputs_of_quanta [] = None
inputs_of_quanta (quantum ∷ []) = None
inputs_of_quanta (first ∷ second ∷ more) = Some (length (first ∷ second ∷ more))

-- how many inputs a scheduler has by its arguments; none if it has as many as are connected
abbrev pub inputs_of : Scheduler → Option ℕ
inputs_of (drr quanta) = inputs_of_quanta quanta
inputs_of (stride tickets) = Some (length tickets)
inputs_of (shaper rate burst) = Some 1
inputs_of s = None

-- the quantum of each of so many inputs
abbrev pub quanta_over : List ℕ → ℕ → List ℕ
quanta_over (quantum ∷ []) inputs = replicate inputs quantum
quanta_over quanta inputs = quanta

-- a scheduler with arguments for each of so many inputs
abbrev pub over_inputs : Scheduler → ℕ → Scheduler
over_inputs (drr quanta) inputs = drr (quanta_over quanta inputs)
over_inputs s inputs = s

-- the arguments of a scheduler over so many inputs are within their limits: those for inputs are one for each
abbrev pub HasArguments : Scheduler → ℕ → Type 0
HasArguments (drr quanta) inputs = (length quanta ≡ inputs) × AllByRecursion (λ n. (1 ≤ n) × (n ≤ MAX_QUANTUM)) quanta
HasArguments (stride tickets) inputs = (length tickets ≡ inputs) × AllByRecursion (λ n. (1 ≤ n) × (n ≤ MAX_TICKETS)) tickets
HasArguments (shaper rate burst) inputs = (inputs ≡ 1) × ((1 ≤ rate) × (rate ≤ MAX_RATE)) × ((1 ≤ burst) × (burst ≤ MAX_BURST))
HasArguments s inputs = ⊤
