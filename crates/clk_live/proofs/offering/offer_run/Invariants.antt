use Rattle.std.proofs.Common.{◌≡◌, ◌+◌, ◌-◌, ◌≤◌, ◌++◌, List, length, take, drop, set}
use Rattle.clk_inlet.specs.declared.item.Item.{Item}
use Rattle.clk_live.specs.declared.taking.Taken.{Taken}
use Rattle.clk_live.specs.State.{Seen}
use Rattle.clk_live.specs.Taking.{AreTaken, AreOf}
use Rattle.clk_live.specs.inside.Kept.{IsKept}
use Rattle.clk_live.specs.inside.Room.{StayFull}
use Rattle.clk_live.specs.inside.Runs.{CanRun}
use Rattle.clk_live.proofs.offering.offer_run.Given as goal

abbrev pub decreases-loop-done : goal.decreases-loop-done
decreases-loop-done l = length l.run - l.done

abbrev pub invariant-loop-done : goal.invariant-loop-done
invariant-loop-done l =
    ((l.done ≤ length l.run) × (length l.taken ≡ length l.initial.taken))
    × ((items : List (List Item)) (before : List Item) → CanRun l.initial.router l.initial.tokens.items items l.place before (length l.run) → IsKept l.router (set items l.place (before ++ take l.done l.run)) l.tokens.items)
    × ((items : List (List Item)) (before : List Item) → CanRun l.initial.router l.initial.tokens.items items l.place before (length l.run)
    → (old : Seen) (slots : List Taken) → AreTaken old (record { course = l.initial.router; items = items }) slots l.initial.taken l.from
    → AreTaken old (record { course = l.router; items = set items l.place (before ++ take l.done l.run) }) slots l.taken (l.from + l.done))
    × AreOf l.initial.router.setup l.place (drop l.from (take (l.from + l.done) l.taken))
    × (take l.from l.taken ≡ take l.from l.initial.taken)
    × StayFull l.initial.router l.router
    × (l.router.setup ≡ l.initial.router.setup)
