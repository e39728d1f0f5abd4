use Rattle.std.proofs.Common.{◌-◌, length}
use Rattle.clk_router.specs.Course.{CanPull}
use Rattle.clickpull_c.specs.inside.live.Given.{PulledSoFar}
use Rattle.clickpull_c.proofs.live.pulling.pull_on.Given as goal

abbrev pub invariant-loop-given : goal.invariant-loop-given
invariant-loop-given l = PulledSoFar l.device l.moment l.initial.live l.live l.initial.packets l.packets l.given × CanPull l.live.course l.device l.moment

abbrev pub decreases-loop-given : goal.decreases-loop-given
decreases-loop-given l = length l.initial.packets - l.given
