use Rattle.std.proofs.Common.{◌≡◌, map, length}
use Rattle.clk_tree.specs.Elements.{planned}
use Rattle.clk_tree.specs.PlanPaths.{place_after}
use Rattle.clk_tree.proofs.plan.devices.path_end.Given as goal

-- the path from here has the same end
abbrev pub invariant-loop-left : goal.invariant-loop-left
invariant-loop-left l = place_after (map planned l.elements) l.left l.at ≡ place_after (map planned l.elements) (length l.elements) l.place
