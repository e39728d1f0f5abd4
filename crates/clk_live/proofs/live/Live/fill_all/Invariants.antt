use Rattle.std.proofs.Common.{◌≡◌, ◌-◌, ◌<◌, ◌≤◌, List, length, take, drop}
use Rattle.clk_live.specs.declared.taking.Taken.{Taken}
use Rattle.clk_live.specs.State.{Seen, seen, AllGoOn}
use Rattle.clk_live.specs.Taking.{AreTaken, AreOf}
use Rattle.clk_live.specs.inside.Room.{StayFull}
use Rattle.clk_live.proofs.live.Live.fill_all.Given as goal

abbrev pub decreases-loop-count : goal.decreases-loop-count
decreases-loop-count l = l.most - l.count

abbrev pub invariant-loop-count : goal.invariant-loop-count
invariant-loop-count l =
    ((l.from ≤ l.count) × (l.count ≤ l.most) × (length l.taken ≡ length l.initial.taken) × (l.place < length l.self.outlets))
    × ((old : Seen) (before : List Taken) → AreTaken old (seen l.initial.self) before l.initial.taken l.from → AreTaken old (seen l.self) before l.taken l.count)
    × AreOf l.initial.self.course.setup l.place (drop l.from (take l.count l.taken))
    × AllGoOn l.initial.self.outlets l.self.outlets
    × ((l.self.turn ≡ l.initial.self.turn) × (l.self.course.setup ≡ l.initial.self.course.setup))
    × (take l.from l.taken ≡ take l.from l.initial.taken)
    × StayFull l.initial.self.course l.self.course
