use Rattle.std.proofs.Common.{◌≡◌, ◌≤◌, length, ◌-◌}
use Rattle.clickpull_c.specs.Calls.{IsOfferedSoFar}
use Rattle.clickpull_c.proofs.offering.offer_each.Given as goal

abbrev pub invariant-loop-done : goal.invariant-loop-done
invariant-loop-done l =
    IsOfferedSoFar l.initial.router l.router l.offers l.initial.offered l.offered l.done × (length l.offered ≡ length l.initial.offered) × (length l.offers ≤ length l.initial.offered)

abbrev pub decreases-loop-done : goal.decreases-loop-done
decreases-loop-done l = length l.offers - l.done
