use Rattle.std.proofs.Common.{◌≡◌, ◌-◌, length}
use Rattle.clk_router.specs.Course.{CanPull}
use Rattle.clk_live.specs.State.{seen}
use Rattle.clk_live.specs.inside.Given.{GaveSoFar}
use Rattle.clk_live.proofs.live.Live.pull_many.Given as goal

abbrev pub decreases-loop-given : goal.decreases-loop-given
decreases-loop-given l = length l.emitted - l.given

abbrev pub invariant-loop-given : goal.invariant-loop-given
invariant-loop-given l =
    GaveSoFar l.device l.moment (seen l.initial.self) (seen l.self) l.initial.emitted l.emitted l.given × CanPull l.self.course l.device l.moment × ((l.self.outlets ≡ l.initial.self.outlets) × (l.self.turn ≡ l.initial.self.turn))
