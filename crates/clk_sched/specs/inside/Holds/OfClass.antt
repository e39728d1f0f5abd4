-- What each node holds from pull to pull, by its earlier turns.
use Rattle.std.specs.Prelude.{◌≡◌, ℕ, ◌<◌, ◌≤◌, List, length, ⊤}
use Rattle.clk_sched.specs.declared.session.state.State.{State}
use Rattle.clk_sched.specs.declared.session.state.State.TheVariants.{Prio, RoundRobin, Drr, Stride, Shaper}
use Rattle.clk_sched.specs.declared.session.stride.Passes.{Passes}
use Rattle.clk_packet.specs.Scheduler.{Scheduler, prio, round_robin, drr, stride, shaper}
use Rattle.clk_sched.specs.Turns.{Turn, visits_before}
use Rattle.clk_sched.specs.Laws.RoundRobin.{beginning}
use Rattle.clk_sched.specs.inside.Holds.Deficit.{HoldsDeficits}
use Rattle.clk_sched.specs.inside.Holds.Stride.{HoldsPasses}
use Rattle.clk_sched.specs.inside.Holds.Shaper.{HoldsBucket}

-- the passes of so many inputs after some turns
pub record FitsPasses (inputs : ℕ) (p : Passes) : Type 0 where
  pub tickets : List ℕ
  pub turns : List Turn
  pub inputs_are : length tickets ≡ inputs
  pub holds : HoldsPasses tickets turns p

-- a state is one of a node with so many inputs
abbrev pub Fits : State → ℕ → Type 0
Fits (RoundRobin b) inputs = b.input < inputs
Fits (Drr d) inputs = length d.value.row.items ≡ inputs
Fits (Stride p) inputs = FitsPasses inputs p.value
Fits (Shaper b) inputs = 1 ≤ inputs
Fits s inputs = ⊤

-- a state is that of a PrioSched
abbrev pub IsPrio : State → Type 0
IsPrio Prio = ⊤
IsPrio s = ⊥

-- a state is that of a RoundRobinSched
abbrev pub IsRoundRobin : State → Type 0
IsRoundRobin (RoundRobin b) = ⊤
IsRoundRobin s = ⊥

-- a state is that of a DRRSched
abbrev pub IsDrr : State → Type 0
IsDrr (Drr d) = ⊤
IsDrr s = ⊥

-- a state is that of a StrideSched
abbrev pub IsStride : State → Type 0
IsStride (Stride p) = ⊤
IsStride s = ⊥

-- a state is that of a Shaper
abbrev pub IsShaper : State → Type 0
IsShaper (Shaper b) = ⊤
IsShaper s = ⊥

-- what a scheduler of a class with so many inputs holds after these turns, the latest first: nothing of another class
abbrev pub Holds : Scheduler → ℕ → List Turn → State → Type 0
Holds prio inputs turns Prio = ⊤
Holds round_robin inputs turns (RoundRobin b) = b.input ≡ beginning inputs turns
Holds (drr quanta) inputs turns (Drr d) = HoldsDeficits quanta inputs (visits_before turns) d.value
Holds (stride tickets) inputs turns (Stride p) = HoldsPasses tickets turns p.value
Holds (shaper rate burst) inputs turns (Shaper b) = HoldsBucket rate burst turns b
Holds class inputs turns s = ⊥
