use Rattle.std.proofs.Common.{◌≡◌, length, ◌-◌}
use Rattle.clk_router.specs.Course.{CanPull}
use Rattle.clickpull_c.specs.inside.SoFar.{GaveSoFar}
use Rattle.clickpull_c.proofs.pulling.pull_on.Given as goal

abbrev pub invariant-loop-given : goal.invariant-loop-given
invariant-loop-given l =
    GaveSoFar l.initial.router l.router l.device l.moment l.initial.packets l.packets l.given × (length l.packets ≡ length l.initial.packets) × CanPull l.router l.device l.moment

abbrev pub decreases-loop-given : goal.decreases-loop-given
decreases-loop-given l = length l.initial.packets - l.given
