use Rattle.std.proofs.Common.{◌+◌, ◌≤◌, length, map, drop}
use Rattle.std.specs.List.{AllByRecursion}
use Rattle.clk_syntax.specs.declared.limits.TheConstants.{MAX_TREE_BYTES}
use Rattle.clk_syntax.specs.Source.{kept, elements}
use Rattle.clk_syntax.specs.inside.Naming.{Declares, IsSlotted}
use Rattle.clk_syntax.specs.Within.{IsDeclaredWithin, words_in}
use Rattle.clk_syntax.proofs.naming.names_of.Given as goal

abbrev pub invariant-loop-declaration : goal.invariant-loop-declaration
invariant-loop-declaration l =
    record {
      within : AllByRecursion (IsDeclaredWithin (length l.text)) (map kept (drop l.declaration-index l.declarations));
      few : l.names.count + words_in (map kept (drop l.declaration-index l.declarations)) ≤ MAX_TREE_BYTES;
      slots : IsSlotted l.names;
      declares : Declares (elements l.text (map kept l.declarations)) (elements l.text (map kept (drop l.declaration-index l.declarations))) l.names;
    }
