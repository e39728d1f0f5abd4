use Rattle.std.proofs.Common.{List, length, drop}
use Rattle.std.specs.List.{AllByRecursion}
use Rattle.clk_syntax.specs.Source.{Element, wires}
use Rattle.clk_syntax.specs.inside.Naming.{IsTable}
use Rattle.clk_syntax.specs.Within.{IsConnectedWithin, HasNumbers}
use Rattle.clk_syntax.proofs.Elements.LinkLemmas.{Links}
use Rattle.clk_syntax.proofs.naming.links_of.Given as goal

abbrev pub invariant-loop-connection : goal.invariant-loop-connection
invariant-loop-connection l =
    record {
      within : AllByRecursion (IsConnectedWithin (length l.text)) (drop l.connection-index l.connections);
      numbers : AllByRecursion (HasNumbers l.text) (drop l.connection-index l.connections);
      links : (all : List Element) → IsTable all l.names → Links all (wires l.text l.connections) (wires l.text (drop l.connection-index l.connections)) l.links.items;
    }
