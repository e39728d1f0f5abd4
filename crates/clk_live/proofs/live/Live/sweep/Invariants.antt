use Rattle.std.proofs.Common.{◌≡◌, ◌-◌, ◌<◌, ◌≤◌, true, List, length, take}
use Rattle.clk_live.specs.declared.taking.Taken.{Taken}
use Rattle.clk_live.specs.State.{Seen, seen, AllGoOn}
use Rattle.clk_live.specs.Taking.{AreTaken, AllAccepted}
use Rattle.clk_live.specs.inside.Each.{AreEach, GaveAllWanted, GaveSharesOr, IsLast}
use Rattle.clk_live.specs.inside.Room.{StayFull}
use Rattle.clk_live.proofs.live.Live.sweep.Given as goal

abbrev pub decreases-loop-place : goal.decreases-loop-place
decreases-loop-place l = l.end - l.place

abbrev pub invariant-loop-place : goal.invariant-loop-place
invariant-loop-place l =
    ((l.first ≤ l.place) × (l.place ≤ l.end) × (l.end ≤ length l.self.outlets))
    × ((l.from ≤ l.count) × (l.count ≤ length l.taken) × (length l.taken ≡ length l.initial.taken))
    × ((old : Seen) (before : List Taken) → AreTaken old (seen l.initial.self) before l.initial.taken l.from → AreTaken old (seen l.self) before l.taken l.count)
    × AreEach l.initial.self.course.setup l.first l.place l.each (take l.from l.initial.taken) (take l.count l.taken)
    × (l.only_fitting ≡ true → AllAccepted (take l.from l.initial.taken) → AllAccepted (take l.count l.taken))
    × AllGoOn l.initial.self.outlets l.self.outlets
    × (l.self.course.setup ≡ l.initial.self.course.setup)
    × (l.count < length l.taken → GaveSharesOr (GaveAllWanted l.only_fitting l.initial.self l.self) l.initial.self.course.setup l.first l.place l.each (take l.from l.initial.taken) (take l.count l.taken))
    × (l.count ≡ length l.taken → IsLast l.initial.self.course.setup l.first l.from l.taken l.count l.place)
    × (take l.from l.taken ≡ take l.from l.initial.taken)
    × StayFull l.initial.self.course l.self.course
    × (l.count ≡ length l.taken → GaveSharesOr (GaveAllWanted l.only_fitting l.initial.self l.self) l.initial.self.course.setup l.first (l.place - 1) l.each (take l.from l.initial.taken) (take l.count l.taken))
