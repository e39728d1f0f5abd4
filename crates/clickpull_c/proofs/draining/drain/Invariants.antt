use Rattle.std.proofs.Common.{◌≡◌, ◌<◌, ◌≤◌, ◌-◌, length}
use Rattle.clickpull_c.specs.Counts.{device_count}
use Rattle.clickpull_c.specs.inside.SoFar.{DrainedSoFar}
use Rattle.clickpull_c.proofs.draining.drain.Given as goal

abbrev pub invariant-loop-device : goal.invariant-loop-device
invariant-loop-device l =
    DrainedSoFar l.initial.router l.router l.device l.initial.departures l.departures l.made l.given × (length l.departures ≡ length l.initial.departures) × (l.device < device_count l.router) × (l.made ≤ l.pulls)

abbrev pub decreases-loop-device : goal.decreases-loop-device
decreases-loop-device l = l.pulls - l.made
