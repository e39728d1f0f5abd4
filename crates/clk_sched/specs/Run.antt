-- Which logs are runs of a tree.
use Rattle.std.specs.Prelude.{◌≡◌, ℕ, List, map, filter}
use Rattle.std.specs.List.{AllByRecursion}
use Rattle.clk_sched.specs.declared.visit.Visit.{Visit}
use Rattle.clk_sched.specs.Tree.{Tree, PlacedScheduler, schedulers_of, width}
use Rattle.clk_sched.specs.Turns.{Turn}
use Rattle.clk_sched.specs.Log.{HasLogShape, pulls, visits_of, turn, asks, pulls_below, result_of}
use Rattle.clk_sched.specs.Laws.{Obeys}
use Rattle.clk_sched.specs.Laws.Device.{IsDeviceTurn}

-- what node x got when it asked at an input is what the child there, node y, returned in this pull
abbrev pub GetsResult : ℕ → ℕ → ℕ → List Visit → Type 0
GetsResult x input y pull = AllByRecursion (λ (v : Visit). v.got ≡ result_of (visits_of y pull)) (filter (asks input) (visits_of x pull))

-- what a scheduler did in those of these pulls in which it was pulled
abbrev pub own_turns : List (List Visit) → PlacedScheduler → List Turn
own_turns pulled n = map (turn n.number) (pulls_below n.above n.input pulled)

-- In these pulls a scheduler obeys the law of its class, and what the node above got from it is its result.
abbrev pub ObeysIn : List (List Visit) → PlacedScheduler → Type 0
ObeysIn pulled n = Obeys n.class (width n.inputs) (own_turns pulled n) × AllByRecursion (GetsResult n.above n.input n.number) pulled

-- A log is a run of a tree: it has a log's shape, and the device and each scheduler obey their laws. What the queues gave is left open.
pub record IsRun (tree : Tree) (log : List Visit) : Type 0 where
  pub shape : HasLogShape tree log
  pub device : AllByRecursion IsDeviceTurn (map (turn 0) (pulls log))
  pub below : AllByRecursion (ObeysIn (pulls log)) (schedulers_of tree)
