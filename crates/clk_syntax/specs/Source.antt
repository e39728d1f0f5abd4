-- What the statements of a text declare and connect, each in order with its places.
use Rattle.std.specs.Prelude.{ℕ, List, [], ◌∷◌, take, drop, map, Option, Some, None}
use Rattle.std.specs.List.{flat_map}
use Rattle.clk_packet.specs.Numbers.{number_in}
use Rattle.clk_syntax.specs.declared.texts.token.Token.{Token}
use Rattle.clk_syntax.specs.declared.texts.statements.Declaration.{Declaration}
use Rattle.clk_syntax.specs.declared.texts.statements.Connection.{Connection}
use Rattle.clk_syntax.specs.declared.limits.TheConstants.{MAX_PORT}
use Rattle.clk_syntax.specs.Grammar.{Hop, Statement, nothing, declaration, chain}

-- names, and the class and arguments that they all have
pub record Declared : Type 0 where
  pub names : List Token
  pub class : Token
  pub arguments : List Token

abbrev pub given : Option (List Token) → List Token
given None = []
given (Some words) = words

-- what a statement declares
abbrev pub declared_in : Statement → List Declared
declared_in nothing = []
declared_in (declaration first more class arguments) = record { names = first ∷ more; class = class; arguments = given arguments } ∷ []
declared_in (chain first hop more) = []

-- the connections of a chain from this name on: each hop is one, from the name before it
abbrev pub hops_from : Token → List Hop → List Connection
hops_from name [] = []
hops_from name (hop ∷ more) = record { from = name; output = hop.output; input = hop.input; to = hop.name } ∷ hops_from hop.name more

-- what a statement connects
abbrev pub connected_in : Statement → List Connection
connected_in nothing = []
connected_in (declaration first more class arguments) = []
connected_in (chain first hop more) = hops_from first (hop ∷ more)

-- a declaration of the code, as definitions see it
abbrev pub kept : Declaration → Declared
kept d = record { names = d.names.items; class = d.class; arguments = d.arguments.items }

-- a word, and where in the text it begins, in bytes
pub record Word : Type 0 where
  pub place : ℕ
  pub letters : List ℕ

-- an element: its name, its class, and the words of its arguments
pub record Element : Type 0 where
  pub name : Word
  pub class : Word
  pub arguments : List (List ℕ)

-- a wire from an output to an input: the names of the elements, as they stand in a chain, and the ports, of which one above the
-- greatest is None
pub record Wire : Type 0 where
  pub from : Word
  pub output : Option ℕ
  pub input : Option ℕ
  pub to : Word

-- the bytes of a token
abbrev pub letters : List ℕ → Token → List ℕ
letters text token = take token.length (drop token.place text)

abbrev pub word : List ℕ → Token → Word
word text token = record { place = token.place; letters = letters text token }

-- the port that is written, or 0; None for one above the greatest, which no element has
abbrev pub port : List ℕ → Option Token → Option ℕ
port text None = Some 0
port text (Some number) = number_in 0 MAX_PORT (letters text number)

abbrev pub element : List ℕ → Token → List Token → Token → Element
element text class arguments name = record { name = word text name; class = word text class; arguments = map (letters text) arguments }

-- the elements of a declaration: one for each name, of the class and arguments that all its names have
abbrev pub elements_in : List ℕ → Declared → List Element
elements_in text d = map (element text d.class d.arguments) d.names

abbrev pub elements : List ℕ → List Declared → List Element
elements text declared = flat_map (elements_in text) declared

abbrev pub wire : List ℕ → Connection → Wire
wire text c = record { from = word text c.from; output = port text c.output; input = port text c.input; to = word text c.to }

abbrev pub wires : List ℕ → List Connection → List Wire
wires text connections = map (wire text) connections
