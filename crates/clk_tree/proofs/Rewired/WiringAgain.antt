-- Connections in another order, and elements and connections at other places, have no fault where these have none.
use Rattle.std.proofs.Common.{◌≡◌, List, None, rules}
use Rattle.clk_syntax.specs.declared.node.Node.{Node}
use Rattle.clk_syntax.specs.declared.node.Link.{Link}
use Rattle.clk_syntax.specs.Source.{Element, Wire}
use Rattle.clk_syntax.specs.Faults.{nodes_of, links_of, naming_fault, nodes_fault, fault_of}
use Rattle.clk_syntax.proofs.Callers.Checks.{neither}
use Rattle.clk_tree.proofs.Sound.SoundPaths.{each-check}
use Rattle.clk_tree.proofs.Rewired.SameWiring.{IsRewired, AreSameNodes}
use Rattle.clk_tree.proofs.Rewired.WiringAgainPorts.{both-none, links-right, none-twice, none-missing}
use Rattle.clk_tree.proofs.Rewired.WiringAgainShape.{same-device, is-tree, same-large}

pub rewired-faultless : (nodes others : List Node) (links rewired : List Link) → AreSameNodes nodes others → IsRewired links rewired → nodes_fault nodes links ≡ None
    → nodes_fault others rewired ≡ None
rewired-faultless nodes others links rewired same is none = search (rules, each-check, links-right, none-twice, none-missing, same-device, is-tree, same-large)

-- What is declared once more under names that are right, with its connections in another order, has no fault either.
pub same-faultless : (elements again : List Element) (wires joined : List Wire) → fault_of elements wires ≡ None → naming_fault again joined ≡ None → AreSameNodes (nodes_of elements) (nodes_of again)
    → IsRewired (links_of elements wires) (links_of again joined) → fault_of again joined ≡ None
same-faultless elements again wires joined none named same is = search (rules, neither, both-none, rewired-faultless)
