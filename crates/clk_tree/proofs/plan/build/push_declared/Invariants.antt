use Rattle.std.proofs.Common.{drop}
use Rattle.clk_syntax.specs.Classes.{class_view}
use Rattle.clk_tree.proofs.Building.BuildLemmas.{AreAdded}
use Rattle.clk_tree.proofs.plan.build.push_declared.Given as goal

-- the elements so far and those of the names that are left are all
abbrev pub invariant-loop-name : goal.invariant-loop-name
invariant-loop-name l = AreAdded l.graph l.text (class_view l.class) l.names (drop l.name-index l.names) l.initial.elements.items l.elements.items
