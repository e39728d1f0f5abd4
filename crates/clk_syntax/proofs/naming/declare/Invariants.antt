use Rattle.std.proofs.Common.{◌≡◌, ◌+◌, ◌++◌, List, length, map, drop}
use Rattle.clk_syntax.specs.Source.{Element, kept, element, elements_in}
use Rattle.clk_syntax.specs.inside.Naming.{Declares, IsSlotted}
use Rattle.clk_syntax.specs.Within.{AreWithin}
use Rattle.clk_syntax.proofs.naming.declare.Given as goal

abbrev pub invariant-loop-name : goal.invariant-loop-name
invariant-loop-name l =
    record {
      count : l.names.count ≡ l.initial.names.count + l.name-index;
      slots : IsSlotted l.names;
      within : AreWithin (length l.text) (drop l.name-index l.declaration.names.items);
      declares : (all more : List Element) → Declares all (elements_in l.text (kept l.declaration) ++ more) l.initial.names
          → Declares all (map (element l.text l.declaration.class l.declaration.arguments.items) (drop l.name-index l.declaration.names.items) ++ more) l.names;
    }
