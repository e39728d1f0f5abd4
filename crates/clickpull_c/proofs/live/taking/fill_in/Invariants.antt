use Rattle.std.proofs.Common.{◌≤◌, ◌-◌, map, take}
use Rattle.clickpull_c.specs.Filled.{IsFilled}
use Rattle.clickpull_c.specs.live.Values.{taken_in_c}
use Rattle.clickpull_c.proofs.live.taking.fill_in.Given as goal

abbrev pub invariant-loop-done : goal.invariant-loop-done
invariant-loop-done l = (l.done ≤ l.count) × IsFilled l.initial.taken l.taken (map taken_in_c (take l.done l.slots))

abbrev pub decreases-loop-done : goal.decreases-loop-done
decreases-loop-done l = l.count - l.done
