-- No check of a text tells that memory was refused.
use Rattle.std.proofs.Common.{◌≡◌, ℕ, List, length, Bool, true, false, nat_lt, if◌then◌else◌, Option, Some, None, option_map, inl, inr}
use Rattle.std.specs.Option.{option_or}
use Rattle.clk_packet.specs.declared.fault.Fault.{Fault}
use Rattle.clk_packet.specs.declared.fault.Fault.TheVariants.{Memory, BadText, UnknownClass, BadArgument, NameTwice, UnknownName, BadPort, PortTwice, PortMissing, WrongKind, NoDevice, NotATree, TooLarge}
use Rattle.clk_syntax.specs.declared.node.Node.{Node}
use Rattle.clk_syntax.specs.declared.node.Link.{Link}
use Rattle.clk_syntax.specs.declared.limits.TheConstants.{MAX_TREE_BYTES}
use Rattle.clk_syntax.specs.Source.{Element, Wire}
use Rattle.clk_syntax.specs.Declarations.{name_twice, unknown_class, bad_argument, unknown_name}
use Rattle.clk_syntax.specs.Ports.{bad_port, port_twice, port_missing, wrong_kind, has_device, not_a_tree}
use Rattle.clk_syntax.specs.Size.{too_large}
use Rattle.clk_syntax.specs.Faults.{bad_text, naming_fault, port_fault, shape_fault, nodes_of, links_of, fault_of}
use Rattle.clk_syntax.specs.Reading.{elements_of, wires_of, HasFault}

abbrev IsOther : Option Fault → Type 0
IsOther told = ¬ (told ≡ Some Memory)

by-place : (fault : ℕ → Fault) → ((place : ℕ) → ¬ (fault place ≡ Memory)) → (found : Option ℕ) → IsOther (option_map fault found)
by-place fault other None e = absurd (cc)
by-place fault other (Some place) e = let same : fault place ≡ Memory = cc in other place same

or-other : (first later : Option Fault) → IsOther first → IsOther later → IsOther (option_or first later)
or-other None later is other e = other e
or-other (Some fault) later is other e = is e

if-other : (test : Bool) (first later : Option Fault) → IsOther first → IsOther later → IsOther (if test then first else later)
if-other true first later is other e = is e
if-other false first later is other e = other e

naming-other : (elements : List Element) (wires : List Wire) → IsOther (naming_fault elements wires)
naming-other elements wires =
    or-other _ _ (by-place NameTwice (λ place e. absurd (cc)) (name_twice elements))
    (or-other _ _ (by-place UnknownClass (λ place e. absurd (cc)) (unknown_class elements))
    (or-other _ _ (by-place BadArgument (λ place e. absurd (cc)) (bad_argument elements))
    (by-place UnknownName (λ place e. absurd (cc)) (unknown_name elements wires))))

port-other : (nodes : List Node) (links : List Link) → IsOther (port_fault nodes links)
port-other nodes links =
    or-other _ _ (by-place BadPort (λ place e. absurd (cc)) (bad_port nodes links))
    (or-other _ _ (by-place PortTwice (λ place e. absurd (cc)) (port_twice nodes links))
    (or-other _ _ (by-place PortMissing (λ place e. absurd (cc)) (port_missing nodes links))
    (by-place WrongKind (λ place e. absurd (cc)) (wrong_kind nodes links))))

shape-other : (nodes : List Node) (links : List Link) → IsOther (shape_fault nodes links)
shape-other nodes links =
    or-other _ _ (if-other (has_device nodes) None (Some NoDevice) (λ e. absurd (cc)) (λ e. absurd (cc)))
    (or-other _ _ (by-place NotATree (λ place e. absurd (cc)) (not_a_tree nodes links))
    (if-other (too_large nodes links) (Some TooLarge) None (λ e. absurd (cc)) (λ e. absurd (cc))))

fault-other : (elements : List Element) (wires : List Wire) → IsOther (fault_of elements wires)
fault-other elements wires =
    or-other _ _ (naming-other elements wires)
    (or-other _ _ (port-other (nodes_of elements) (links_of elements wires)) (shape-other (nodes_of elements) (links_of elements wires)))

pub text-no-memory : (text : List ℕ) → ¬ (HasFault text Memory)
text-no-memory text (inl told) =
    if-other (nat_lt MAX_TREE_BYTES (length text)) (Some TooLarge) (option_map BadText (bad_text text)) (λ e. absurd (cc)) (by-place BadText (λ place e. absurd (cc)) (bad_text text)) told
text-no-memory text (inr h) = fault-other (elements_of text h.statements) (wires_of text h.statements) h.is
