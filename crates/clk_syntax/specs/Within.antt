-- Tokens that lie within a text of so many bytes.
use Rattle.std.specs.Prelude.{◌≡◌, ℕ, ◌+◌, ◌≤◌, ◌<◌, List, [], ◌∷◌, length, true, IfSome}
use Rattle.std.specs.List.{AllByRecursion}
use Rattle.std.specs.Str.{all_ascii_digits}
use Rattle.clk_packet.specs.Numbers.{has_bytes}
use Rattle.clk_syntax.specs.declared.texts.token.Token.{Token}
use Rattle.clk_syntax.specs.declared.texts.statements.Connection.{Connection}
use Rattle.clk_syntax.specs.declared.node.Node.{Node}
use Rattle.clk_syntax.specs.declared.node.Link.{Link}
use Rattle.clk_syntax.specs.Source.{Declared, letters}
use Rattle.clk_syntax.specs.declared.limits.TheConstants.{MAX_PORT}

abbrev pub IsWithin : ℕ → Token → Type 0
IsWithin end token = token.place + token.length ≤ end

abbrev pub AreWithin : ℕ → List Token → Type 0
AreWithin end tokens = AllByRecursion (IsWithin end) tokens

abbrev pub IsDeclaredWithin : ℕ → Declared → Type 0
IsDeclaredWithin end d = AreWithin end d.names × IsWithin end d.class × AreWithin end d.arguments

abbrev pub IsConnectedWithin : ℕ → Connection → Type 0
IsConnectedWithin end c = IsWithin end c.from × IfSome c.output (IsWithin end) × IfSome c.input (IsWithin end) × IsWithin end c.to

-- a connection whose ends are among the elements
abbrev pub IsLinkWithin : List Node → Link → Type 0
IsLinkWithin nodes c = (c.from < length nodes) × (c.to < length nodes)

-- a declaration has at least one name
abbrev pub IsNamed : Declared → Type 0
IsNamed d = 0 < length d.names

-- how many names and arguments declarations have
abbrev pub words_in : List Declared → ℕ
words_in [] = 0
words_in (d ∷ more) = length d.names + length d.arguments + words_in more

-- a port that is written is a number: digits, and at least one
abbrev pub IsNumber : List ℕ → Token → Type 0
IsNumber text token = (all_ascii_digits (letters text token) ≡ true) × (has_bytes (letters text token) ≡ true)

abbrev pub HasNumbers : List ℕ → Connection → Type 0
HasNumbers text c = IfSome c.output (IsNumber text) × IfSome c.input (IsNumber text)

-- a connection whose ports are as the code keeps them
abbrev pub HasPorts : Link → Type 0
HasPorts c = (c.output ≤ MAX_PORT + 1) × (c.input ≤ MAX_PORT + 1)
