use Rattle.std.proofs.Common.{◌-◌, length}
use Rattle.clickpull_c.specs.inside.live.Given.{ReclaimedSoFar}
use Rattle.clickpull_c.proofs.live.reclaiming.reclaim.Given as goal

abbrev pub invariant-loop-given : goal.invariant-loop-given
invariant-loop-given l = ReclaimedSoFar l.initial.router.reclaimed l.initial.router l.router l.initial.tokens l.tokens l.given

abbrev pub decreases-loop-given : goal.decreases-loop-given
decreases-loop-given l = length l.initial.tokens - l.given
