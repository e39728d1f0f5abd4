use Rattle.std.proofs.Common.{◌≤◌, length, map, drop}
use Rattle.std.specs.List.{AllByRecursion}
use Rattle.clk_syntax.specs.declared.limits.TheConstants.{MAX_TREE_BYTES}
use Rattle.clk_syntax.specs.Source.{kept}
use Rattle.clk_syntax.specs.inside.Naming.{Judges}
use Rattle.clk_syntax.specs.Within.{IsDeclaredWithin, IsNamed, words_in}
use Rattle.clk_syntax.proofs.naming.judge_all.Given as goal

abbrev pub invariant-loop-declaration : goal.invariant-loop-declaration
invariant-loop-declaration l =
    record {
      within : AllByRecursion (IsDeclaredWithin (length l.text)) (map kept (drop l.declaration-index l.declarations));
      named : AllByRecursion IsNamed (map kept (drop l.declaration-index l.declarations));
      few : words_in (map kept (drop l.declaration-index l.declarations)) ≤ MAX_TREE_BYTES;
      judges : Judges l.text (map kept l.declarations) (map kept (drop l.declaration-index l.declarations)) l.judged;
    }
