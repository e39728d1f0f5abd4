use Rattle.std.proofs.Common.{◌<◌, ◌≤◌, ◌-◌, length}
use Rattle.clickpull_c.specs.inside.live.Given.{DepartedSoFar}
use Rattle.clickpull_c.proofs.live.draining.drain_device.Given as goal

abbrev pub invariant-loop-device : goal.invariant-loop-device
invariant-loop-device l =
    DepartedSoFar l.device l.initial.live l.live l.initial.departures l.departures l.made l.given × (l.device < length l.live.course.setup.trees) × (l.made ≤ l.pulls)

abbrev pub decreases-loop-device : goal.decreases-loop-device
decreases-loop-device l = l.pulls - l.made
