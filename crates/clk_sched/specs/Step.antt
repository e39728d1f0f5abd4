-- What one more pull of a tree may be, after those of a run.
use Rattle.std.specs.Prelude.{◌≡◌, ℕ, true, List, [], ◌∷◌, ◌++◌, length, map, reverse, Option, IfSome}
use Rattle.std.specs.List.{AllByRecursion, flat_map, list_any}
use Rattle.clk_packet.specs.declared.packet.Packet.{Packet}
use Rattle.clk_sched.specs.declared.visit.Visit.{Visit}
use Rattle.clk_sched.specs.Tree.{Tree, PlacedScheduler, schedulers_of, root, width, queue_at, IsSound}
use Rattle.clk_sched.specs.Laws.{AllowsTurn}
use Rattle.clk_sched.specs.Log.{pulls, visits_of, block, moment_of, HasOneMoment, NeverFalls, turn, asks}
use Rattle.clk_sched.specs.Laws.Device.{IsDeviceTurn}
use Rattle.clk_sched.specs.Run.{GetsResult, IsRun, own_turns}

-- If a scheduler is pulled in this pull, its turn is allowed after its earlier turns, and what the node above got from it is its result.
-- Earlier pulls have the latest first.
abbrev pub AllowsIn : List (List Visit) → List Visit → PlacedScheduler → Type 0
AllowsIn earlier pull n =
    (list_any (asks n.input) (visits_of n.above pull) ≡ true → AllowsTurn n.class (width n.inputs) (own_turns earlier n) (turn n.number pull))
    × GetsResult n.above n.input n.number pull

-- A pull may follow a run: the device and each scheduler that is pulled do what they may in it. It is the device's block of its own visits.
-- These have the next number and one moment, which is no earlier than those before.
pub record IsNextPull (tree : Tree) (log pull : List Visit) : Type 0 where
  pub number : AllByRecursion (λ (v : Visit). v.pull ≡ length (pulls log)) pull
  pub whole : pull ≡ block tree pull
  pub one_moment : HasOneMoment pull
  pub moments : NeverFalls 0 (map moment_of (pulls log ++ pull ∷ []))
  pub device : IsDeviceTurn (turn 0 pull)
  pub below : AllByRecursion (AllowsIn (reverse (pulls log)) pull) (schedulers_of tree)

-- a log with one pull more is a run, and that pull is the last
pub record IsOnePullMore (tree : Tree) (log pull : List Visit) : Type 0 where
  pub run : IsRun tree (log ++ pull)
  pub last : pulls (log ++ pull) ≡ pulls log ++ pull ∷ []

-- a run without its last pull is a run, which that pull may follow
pub record IsOnePullLess (tree : Tree) (log pull : List Visit) : Type 0 where
  pub run : IsRun tree log
  pub next : IsNextPull tree log pull

-- a log is a run, of these pulls
pub record IsRunOf (tree : Tree) (log : List Visit) (pulled : List (List Visit)) : Type 0 where
  pub run : IsRun tree log
  pub are : pulls log ≡ pulled

-- The empty log is a run, and a run goes on by each pull that may follow it, and by no other. The first pulls of a run are a run.
pub record GoesOn (tree : Tree) : Type 0 where
  pub start : IsRun tree []
  pub step : (log pull : List Visit) → IsRun tree log → IsNextPull tree log pull → IsOnePullMore tree log pull
  pub back : (log pull : List Visit) → IsOnePullMore tree log pull → IsOnePullLess tree log pull
  pub fronts : (log : List Visit) (before after : List (List Visit)) → IsRun tree log → pulls log ≡ before ++ after → IsRunOf tree (flat_map (λ pull. pull) before) before

-- A pull that may follow a run, at this counted moment, in which each visit that asks a queue gets what `answer` says for its node and
-- input.
pub record IsPullWith (tree : Tree) (log : List Visit) (moment : ℕ) (answer : ℕ → ℕ → Option Packet) : Type 0 where
  pub pull : List Visit
  pub next : IsNextPull tree log pull
  pub at_moment : moment_of pull ≡ moment
  pub answered : AllByRecursion (λ (v : Visit). v.fresh ≡ true → IfSome (queue_at tree v.node v.input) (λ q. v.got ≡ answer v.node v.input)) pull

-- A run of a sound tree can go on at each moment that is no earlier than its last, whatever the queues give. So nothing in the definition
-- of a run keeps a scheduler from its next pull.
abbrev pub CanGoOn : Tree → Type 0
CanGoOn tree =
    IsSound (root tree) → (log : List Visit) (moment : ℕ) (answer : ℕ → ℕ → Option Packet) → IsRun tree log → NeverFalls 0 (map moment_of (pulls log) ++ moment ∷ [])
    → IsPullWith tree log moment answer
