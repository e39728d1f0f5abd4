use Rattle.std.proofs.Common.{◌≡◌, ◌<◌, ◌≤◌, ◌-◌, length}
use Rattle.clk_live.specs.State.{seen}
use Rattle.clk_live.specs.inside.Given.{DrainedSoFar}
use Rattle.clk_live.proofs.live.Live.drain.Given as goal

abbrev pub decreases-loop-self : goal.decreases-loop-self
decreases-loop-self l = l.pulls - l.made

abbrev pub invariant-loop-self : goal.invariant-loop-self
invariant-loop-self l =
    DrainedSoFar l.device (seen l.initial.self) (seen l.self) l.initial.departed l.departed l.made l.given
    × (l.device < length l.self.course.setup.trees)
    × (l.made ≤ l.pulls)
    × ((l.self.outlets ≡ l.initial.self.outlets) × (l.self.turn ≡ l.initial.self.turn))
