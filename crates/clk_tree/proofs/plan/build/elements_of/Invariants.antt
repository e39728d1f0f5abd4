use Rattle.std.proofs.Common.{map, drop}
use Rattle.clk_syntax.specs.Source.{kept}
use Rattle.clk_tree.proofs.Building.BuildLemmas.{AreBuilt}
use Rattle.clk_tree.proofs.plan.build.elements_of.Given as goal

-- the elements so far and those of the declarations that are left are all
abbrev pub invariant-loop-place : goal.invariant-loop-place
invariant-loop-place l = AreBuilt l.graph l.text (map kept l.declarations) (map kept (drop l.place l.declarations)) (drop l.place l.classes) l.elements.items
