use Rattle.std.proofs.Common.{◌≡◌, length, map, drop}
use Rattle.std.specs.List.{AllByRecursion}
use Rattle.clk_syntax.specs.Source.{kept, elements}
use Rattle.clk_syntax.specs.Declarations.{unknown_class}
use Rattle.clk_syntax.specs.Within.{IsDeclaredWithin, IsNamed}
use Rattle.clk_syntax.proofs.Elements.UnknownLemmas.{unknown_in}
use Rattle.clk_syntax.proofs.naming.check_classes.Given as goal

abbrev pub invariant-loop-declaration : goal.invariant-loop-declaration
invariant-loop-declaration l =
    record {
      within : AllByRecursion (IsDeclaredWithin (length l.text)) (map kept (drop l.declaration-index l.declarations));
      named : AllByRecursion IsNamed (map kept (drop l.declaration-index l.declarations));
      unknown : unknown_class (elements l.text (map kept l.declarations)) ≡ unknown_in (elements l.text (map kept (drop l.declaration-index l.declarations)));
    }
