-- The fault of a tree text: the first, in this order, that it has.
use Rattle.std.specs.Prelude.{ℕ, ◌+◌, List, [], ◌∷◌, length, unwrap_or, map, nat_lt, if◌then◌else◌, Option, Some, None}
use Rattle.std.specs.Option.{option_or, option_map}
use Rattle.std.specs.List.{filter_map, position_or_len}
use Rattle.std.specs.Str.{bytes_eq}
use Rattle.clk_packet.specs.declared.fault.Fault.{Fault}
use Rattle.clk_packet.specs.declared.fault.Fault.TheVariants.{BadText, UnknownClass, BadArgument, NameTwice, UnknownName, BadPort, PortTwice, PortMissing, WrongKind, NoDevice, NotATree, TooLarge}
use Rattle.clk_syntax.specs.declared.texts.token.Token.{Token}
use Rattle.clk_syntax.specs.declared.node.Node.{Node}
use Rattle.clk_syntax.specs.declared.node.Link.{Link}
use Rattle.clk_syntax.specs.declared.limits.TheConstants.{MAX_TREE_BYTES, MAX_PORT}
use Rattle.clk_syntax.specs.Tokens.{tokens_of}
use Rattle.clk_syntax.specs.Diagram.{start, wrong_from}
use Rattle.clk_syntax.specs.Classes.{Class, role_of}
use Rattle.clk_syntax.specs.Source.{Element, Wire}
use Rattle.clk_syntax.specs.Declarations.{class_of, name_twice, unknown_class, bad_argument, unknown_name}
use Rattle.clk_syntax.specs.Ports.{bad_port, port_twice, port_missing, wrong_kind, has_device, not_a_tree}
use Rattle.clk_syntax.specs.Size.{too_large}

-- where a text that ends at `end` is wrong, by what is left of its tokens from the first on that can't stand where it does
abbrev pub offset_of : ℕ → List Token → ℕ
offset_of end [] = end
offset_of end (token ∷ more) = token.place

-- fault 2: where the text breaks the grammar
abbrev pub bad_text : List ℕ → Option ℕ
bad_text text = option_map (offset_of (length text)) (wrong_from start (tokens_of text))

-- an element as the checks of ports see it
abbrev pub node : ℕ → Class → Node
node place class = record { place = place; role = role_of class }

abbrev pub node_of : Element → Option Node
node_of e = option_map (node e.name.place) (class_of e)

abbrev pub nodes_of : List Element → List Node
nodes_of elements = filter_map node_of elements

-- the place of the element of this name among all
abbrev pub place_of : List Element → List ℕ → ℕ
place_of elements name = position_or_len (λ (e : Element). bytes_eq e.name.letters name) elements

-- how a port stands in a link: None as one above the greatest, which no element has either
abbrev pub port_kept : Option ℕ → ℕ
port_kept port = unwrap_or port (MAX_PORT + 1)

abbrev pub link_of : List Element → Wire → Link
link_of elements c = record {
  from = place_of elements c.from.letters;
  output = port_kept c.output;
  input = port_kept c.input;
  to = place_of elements c.to.letters;
  from_place = c.from.place;
  to_place = c.to.place;
}

abbrev pub links_of : List Element → List Wire → List Link
links_of elements wires = map (link_of elements) wires

-- faults 5, 3, 4 and 6: what is wrong with names, classes and arguments
abbrev pub naming_fault : List Element → List Wire → Option Fault
naming_fault elements wires =
    option_or (option_map NameTwice (name_twice elements))
    (option_or (option_map UnknownClass (unknown_class elements))
    (option_or (option_map BadArgument (bad_argument elements))
    (option_map UnknownName (unknown_name elements wires))))

-- faults 7 to 10: what is wrong with ports
abbrev pub port_fault : List Node → List Link → Option Fault
port_fault nodes links =
    option_or (option_map BadPort (bad_port nodes links))
    (option_or (option_map PortTwice (port_twice nodes links))
    (option_or (option_map PortMissing (port_missing nodes links))
    (option_map WrongKind (wrong_kind nodes links))))

-- faults 11, 13 and 18: what is wrong with devices, trees and sizes. No text has fault 12, since it may have several devices.
abbrev pub shape_fault : List Node → List Link → Option Fault
shape_fault nodes links =
    option_or (if has_device nodes then None else Some NoDevice)
    (option_or (option_map NotATree (not_a_tree nodes links))
    (if too_large nodes links then Some TooLarge else None))

-- what is wrong with ports, or else with devices, trees and sizes
abbrev pub nodes_fault : List Node → List Link → Option Fault
nodes_fault nodes links = option_or (port_fault nodes links) (shape_fault nodes links)

-- what is wrong with what a text declares and connects
abbrev pub fault_of : List Element → List Wire → Option Fault
fault_of elements wires =
    option_or (naming_fault elements wires) (nodes_fault (nodes_of elements) (links_of elements wires))

-- what is wrong with a text before its statements are looked at: it has too many bytes, or it breaks the grammar
abbrev pub text_fault : List ℕ → Option Fault
text_fault text = if nat_lt MAX_TREE_BYTES (length text) then Some TooLarge else option_map BadText (bad_text text)
