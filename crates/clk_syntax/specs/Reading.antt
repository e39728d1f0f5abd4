-- What a text says as a whole: statements without a fault, or a fault.
use Rattle.std.specs.Prelude.{◌≡◌, ◌⊎◌, ◌≤◌, ℕ, List, length, None, Some}
use Rattle.std.specs.List.{flat_map}
use Rattle.clk_packet.specs.declared.fault.Fault.{Fault}
use Rattle.clk_syntax.specs.Tokens.{tokens_of}
use Rattle.clk_syntax.specs.Grammar.{Statement, IsText}
use Rattle.clk_syntax.specs.Source.{Declared, declared_in, connected_in, Element, Wire, elements, wires}
use Rattle.clk_syntax.specs.declared.node.Node.{Node}
use Rattle.clk_syntax.specs.declared.node.Link.{Link}
use Rattle.clk_syntax.specs.declared.texts.statements.Connection.{Connection}
use Rattle.clk_syntax.specs.declared.texts.token.Token.{Token}
use Rattle.clk_syntax.specs.declared.limits.TheConstants.{MAX_TREE_BYTES}
use Rattle.clk_syntax.specs.Diagram.{start, wrong_from}
use Rattle.clk_syntax.specs.Faults.{naming_fault, nodes_of, links_of, fault_of, text_fault}

-- the elements that statements of a text declare
abbrev pub elements_of : List ℕ → List Statement → List Element
elements_of text statements = elements text (flat_map declared_in statements)

-- the wires that statements of a text connect
abbrev pub wires_of : List ℕ → List Statement → List Wire
wires_of text statements = wires text (flat_map connected_in statements)

-- the statements of a text have no fault
pub record IsFaultless (text : List ℕ) : Type 0 where
  pub short_and_right : text_fault text ≡ None
  pub statements : List Statement
  pub is_text : IsText (tokens_of text) statements
  pub sound : fault_of (elements_of text statements) (wires_of text statements) ≡ None

-- the statements of a text have this fault, the first of theirs
pub record HasStatementFault (text : List ℕ) (fault : Fault) : Type 0 where
  pub short_and_right : text_fault text ≡ None
  pub statements : List Statement
  pub is_text : IsText (tokens_of text) statements
  pub is : fault_of (elements_of text statements) (wires_of text statements) ≡ Some fault

-- the fault of a text: it has too many bytes or breaks the grammar, or else its statements have a fault
abbrev pub HasFault : List ℕ → Fault → Type 0
HasFault text fault = (text_fault text ≡ Some fault) ⊎ HasStatementFault text fault

-- What is known of a text whose names are right: these statements, and their nodes and links.
pub record IsNamedText (text : List ℕ) (tokens : List Token) (declared : List Declared) (connections : List Connection) (nodes : List Node) (links : List Link) : Type 0 where
  pub few : length text ≤ MAX_TREE_BYTES
  pub are : tokens ≡ tokens_of text
  pub right : wrong_from start tokens ≡ None
  pub read : (statements : List Statement) × IsText tokens statements × (declared ≡ flat_map declared_in statements) × (connections ≡ flat_map connected_in statements)
  pub named : naming_fault (elements text declared) (wires text connections) ≡ None
  pub nodes_are : nodes ≡ nodes_of (elements text declared)
  pub links_are : links ≡ links_of (elements text declared) (wires text connections)
