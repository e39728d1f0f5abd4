-- What is left for a device, and that a drain of it ends.
use Rattle.std.specs.Prelude.{◌≡◌, ℕ, ◌+◌, ◌<◌, ◌≤◌, List, length, max, Some, slice_get}
use Rattle.clk_sched.specs.Bound.{closing_bound}
use Rattle.clk_sched.specs.Tree.{Tree}
use Rattle.clk_sched.specs.declared.visit.Visit.{Visit}
use Rattle.clk_router.specs.Course.{Course, after, events_of, accepted_at, evicted_at, emitted_at, moment_at, CanPull, CanClose}
use Rattle.clk_router.specs.Events.{closing_pulls, CanHappen}

-- packets are left for a device
abbrev pub HasLeft : Course → ℕ → Type 0
HasLeft c device = evicted_at c device + emitted_at c device < accepted_at c device

-- the course after some pulls of a device, one tick apart, the first one tick after the later of this moment and the device's latest
abbrev pub drained_by : Course → (device moment : ℕ) → List (List Visit) → Course
drained_by c device moment pulls = after c (closing_pulls device moment (events_of c device) pulls)

-- A drain of a device from a moment on stopped while packets were left. Its pulls were within the closing bound of what was left before.
pub record StopsShort (old new : Course) (device moment : ℕ) : Type 0 where
  pub made : List (List Visit)
  pub goes_on : new ≡ drained_by old device moment made
  pub within : (tree : Tree) (left : ℕ) → slice_get old.setup.trees device ≡ Some tree → accepted_at old device ≡ evicted_at old device + emitted_at old device + left → length made ≤ closing_bound tree left
  pub short : HasLeft new device

-- A drain that can be made can go on to its end. As long as packets are left after some of its pulls, the device can be pulled once more,
-- one tick later.
abbrev pub DrainsEnd : Course → (device moment : ℕ) → Type 0
DrainsEnd c device moment =
    CanClose c device moment → (pulls : List (List Visit)) → CanHappen c.setup (drained_by c device moment pulls).events → HasLeft (drained_by c device moment pulls) device
    → CanPull (drained_by c device moment pulls) device (max (moment_at c device) moment + length pulls + 1)
