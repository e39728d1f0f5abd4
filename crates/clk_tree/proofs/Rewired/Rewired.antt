-- A plan that is written in canonical form and read again: nothing is wrong with its names, its elements are the same in the same order,
-- and its connections are the same in another order.
use Rattle.std.proofs.Common.{◌≡◌, ℕ, List, map, Option, None, ◌∙◌, rules}
use Rattle.std.specs.Option.{option_or, option_map}
use Rattle.std.specs.List.{AllByRecursion, flat_map}
use Rattle.clk_packet.specs.declared.fault.Fault.TheVariants.{NameTwice, UnknownClass, BadArgument, UnknownName}
use Rattle.clk_sched.proofs.Callers.Lists.{all-weaker}
use Rattle.clk_syntax.specs.declared.node.Link.{Link}
use Rattle.clk_syntax.specs.Source.{Element, Wire}
use Rattle.clk_syntax.specs.Declarations.{name_twice, unknown_class, bad_argument, unknown_name}
use Rattle.clk_syntax.specs.Faults.{nodes_of, links_of, naming_fault, fault_of}
use Rattle.clk_tree.specs.Plan.{all_known, plan_of}
use Rattle.clk_tree.proofs.Canonical.CanonicalSource.{bare_element, bare_wire, element_line, wire_lines, IsReadBack}
use Rattle.clk_tree.proofs.Rewired.SameWiring.{IsRewired, AreSameNodes}
use Rattle.clk_tree.proofs.Rewired.RewiredNames.{same-known, same-nodes, named-again}
use Rattle.clk_tree.proofs.Rewired.RewiredLinks.{plan_links, plan-lines, AreAlike, joined-links, none-unknown, alike-came, alike-occurs, alike-once}
use Rattle.clk_tree.proofs.Rewired.RewiredCame.{plan-came, plan-ends, plan-once}
use Rattle.clk_tree.proofs.Rewired.RewiredKept.{plan-kept}

-- A plan that is declared and connected once more.
pub record IsDeclaredAgain (elements again : List Element) (wires joined : List Wire) : Type 0 where
  pub names : naming_fault again joined ≡ None
  pub known : all_known again ≡ all_known elements
  pub nodes : AreSameNodes (nodes_of elements) (nodes_of again)
  pub links : IsRewired (links_of elements wires) (links_of again joined)

-- connections that are those of a plan, one after another
rewired : (elements : List Element) (wires : List Wire) (others : List Link) → fault_of elements wires ≡ None → AreAlike others (plan_links 0 (plan_of elements wires))
    → IsRewired (links_of elements wires) others
rewired elements wires others none alike = search (rules, all-weaker, alike-occurs, plan-kept, alike-came, plan-came, alike-once, plan-once)

pub declared-again : (elements : List Element) (wires : List Wire) → fault_of elements wires ≡ None → (again : List Element) (joined : List Wire) → AllByRecursion IsReadBack (plan_of elements wires)
    → map bare_element again ≡ map element_line (plan_of elements wires) → map bare_wire joined ≡ flat_map (wire_lines (plan_of elements wires)) (plan_of elements wires)
    → IsDeclaredAgain elements again wires joined
declared-again elements wires none again joined back lines wired =
    let named = named-again elements wires none again back lines in
    let links = joined-links again (plan_of elements wires) joined (plan_links 0 (plan_of elements wires)) lines named.once
    (plan-ends elements wires none) (wired ∙ plan-lines (plan_of elements wires)) in
    record {
      names = no-fault (name_twice again) (unknown_class again) (bad_argument again) (unknown_name again joined)
          named.once named.classes named.arguments (none-unknown again joined (plan_links 0 (plan_of elements wires)) links);
      known = same-known elements again named.same;
      nodes = same-nodes elements again named.same;
      links = rewired elements wires (links_of again joined) none links.alike;
    }
  where
    no-fault : (a b c d : Option ℕ) → a ≡ None → b ≡ None → c ≡ None → d ≡ None
        → option_or (option_map NameTwice a) (option_or (option_map UnknownClass b) (option_or (option_map BadArgument c) (option_map UnknownName d))) ≡ None
    no-fault a b c d p q r s = search (rules, named-again, joined-links, plan-ends, plan-lines, none-unknown, same-known, same-nodes, rewired)
