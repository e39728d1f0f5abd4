-- What the functions of the parser read of some tokens, and where they stop.
use Rattle.std.specs.Prelude.{◌≡◌, ◌≢◌, ℕ, List, [], ◌∷◌, ◌++◌, map, Bool, true, false, Option, Some, None, IfSome}
use Rattle.std.specs.Option.{option_map}
use Rattle.std.specs.List.{flat_map, AllByRecursion}
use Rattle.clk_packet.specs.declared.fault.Fault.{Fault}
use Rattle.clk_packet.specs.declared.fault.Fault.TheVariants.{Memory, BadText}
use Rattle.clk_syntax.specs.declared.texts.token.Symbol.{Symbol}
use Rattle.clk_syntax.specs.declared.texts.token.Symbol.TheVariants.{Declares, Semicolon, LeadsTo, OpenPort, ClosePort, Number}
use Rattle.clk_syntax.specs.declared.texts.token.Token.{Token}
use Rattle.clk_syntax.specs.declared.texts.statements.Connection.{Connection}
use Rattle.clk_syntax.specs.declared.texts.statements.Statements.{Statements}
use Rattle.clk_syntax.specs.Diagram.{Place, start, further_name, class, closed, next_name, wrong_from}
use Rattle.clk_syntax.specs.Grammar.{Hop, Statement, mark, bare, is_word, after_comma, written_arguments, written_hop, written, ended, IsName, IsWord, IsHop, IsStatement, IsText}
use Rattle.clk_syntax.specs.Source.{Declared, given, declared_in, connected_in, hops_from, kept}
use Rattle.clk_syntax.specs.Faults.{offset_of}

-- whether some tokens begin with one of this symbol
abbrev pub BeginsWith : Symbol → List Token → Type 0
BeginsWith symbol [] = ⊥
BeginsWith symbol (token ∷ more) = token.symbol ≡ symbol

-- some tokens after one of this symbol
pub record IsPast (symbol : Symbol) (tokens rest : List Token) : Type 0 where
  pub first : Token
  pub are : tokens ≡ first ∷ rest
  pub is : first.symbol ≡ symbol

-- whether some tokens begin with a word
abbrev pub begins_word : List Token → Bool
begins_word [] = false
begins_word (token ∷ more) = is_word token.symbol

-- whether a hop begins with a token of this symbol
abbrev pub begins_hop : Symbol → Bool
begins_hop LeadsTo = true
begins_hop OpenPort = true
begins_hop symbol = false

-- whether some tokens begin with a hop
abbrev pub goes_on : List Token → Bool
goes_on [] = false
goes_on (token ∷ more) = begins_hop token.symbol

-- Tokens that stand before the rest, and lead from one place of the diagram to another: what they are as the grammar sees them.
pub record Reads (from : Place) (tokens those : List Token) (to : Place) (rest : List Token) : Type 0 where
  pub written : map bare tokens ≡ those ++ map bare rest
  pub stands : wrong_from from tokens ≡ wrong_from to rest

-- the fault of a text of so many bytes, by what its tokens leave
abbrev pub bad : ℕ → Option (List Token) → Option Fault
bad end left = option_map (λ rest. BadText (offset_of end rest)) left

-- a fault of tokens read from a place on: an allocation failed (fault 1), or it says where they are wrong
pub record Stops (end : ℕ) (place : Place) (tokens : List Token) (fault : Fault) : Type 0 where
  pub is : fault ≢ Memory → bad end (wrong_from place tokens) ≡ Some fault

-- a number, and the bracket that closes it
pub record NumberRead (tokens : List Token) (number : Token) (rest : List Token) : Type 0 where
  pub close : Token
  pub are : tokens ≡ number ∷ close ∷ rest
  pub number_is : number.symbol ≡ Number
  pub close_is : close.symbol ≡ ClosePort

-- further words after a first one, each after a comma, and then these tokens
pub record Listed (IsOne : Token → Type 0) (from : Place) (first : Token) (tokens words last : List Token) (to : Place) (rest : List Token) : Type 0 where
  pub more : List Token
  pub are : words ≡ first ∷ more
  pub sound : AllByRecursion IsOne more
  pub reads : Reads from tokens (flat_map after_comma more ++ last) to rest

-- the arguments of a class, or none
pub record ArgumentsRead (tokens words rest : List Token) : Type 0 where
  pub those : Option (List Token)
  pub are : words ≡ given those
  pub sound : IfSome those (AllByRecursion IsWord)
  pub reads : Reads class tokens (written_arguments those) closed rest

-- one hop from a name, to another
pub record HopRead (from : Token) (tokens : List Token) (old new : List Connection) (to : Token) (rest : List Token) : Type 0 where
  pub hop : Hop
  pub name : hop.name ≡ to
  pub sound : IsHop hop
  pub connects : new ≡ old ++ record { from = from; output = hop.output; input = hop.input; to = hop.name } ∷ []
  pub reads : Reads next_name tokens (written_hop hop) next_name rest

-- the name that hops lead to
abbrev pub last_name : Token → List Hop → Token
last_name name [] = name
last_name name (hop ∷ more) = last_name hop.name more

-- hops from a name
pub record HopsRead (first : Token) (tokens : List Token) (old new : List Connection) (to : Place) (rest : List Token) : Type 0 where
  pub hops : List Hop
  pub sound : AllByRecursion IsHop hops
  pub connects : new ≡ old ++ hops_from first hops
  pub reads : Reads next_name tokens (flat_map written_hop hops) to rest

-- a declaration, whose first name comes before these tokens
pub record DeclarationRead (first : Token) (tokens : List Token) (declared : Declared) (rest : List Token) : Type 0 where
  pub more : List Token
  pub arguments : Option (List Token)
  pub are : declared ≡ record { names = first ∷ more; class = declared.class; arguments = given arguments }
  pub names : AllByRecursion IsName more
  pub class_is : IsName declared.class
  pub words : IfSome arguments (AllByRecursion IsWord)
  pub reads : Reads further_name tokens (flat_map after_comma more ++ mark Declares ∷ declared.class ∷ written_arguments arguments) closed rest

-- what these statements declare and connect is new
pub record Adds (old new : Statements) (more : List Statement) : Type 0 where
  pub declares : map kept new.declarations.items ≡ map kept old.declarations.items ++ flat_map declared_in more
  pub connects : new.connections.items ≡ old.connections.items ++ flat_map connected_in more

-- a statement
pub record StatementRead (tokens : List Token) (old new : Statements) (rest : List Token) : Type 0 where
  pub statement : Statement
  pub sound : IsStatement statement
  pub adds : Adds old new (statement ∷ [])
  pub reads : Reads start tokens (written statement) closed rest

-- the end of a statement: a semicolon, or the end of the text
pub data EndRead : List Token → List Token → Type 0 where
  at_end : EndRead [] []
  at_mark : {tokens rest : List Token} → Reads closed tokens (mark Semicolon ∷ []) start rest → EndRead tokens rest

-- a statement with its end
pub record EndedRead (tokens : List Token) (old new : Statements) (rest : List Token) : Type 0 where
  pub middle : List Token
  pub read : StatementRead tokens old new middle
  pub last : EndRead middle rest

-- statements, each with its semicolon
pub record EarlierRead (tokens : List Token) (now : Statements) (left : List Token) : Type 0 where
  pub earlier : List Statement
  pub sound : AllByRecursion IsStatement earlier
  pub declares : map kept now.declarations.items ≡ flat_map declared_in earlier
  pub connects : now.connections.items ≡ flat_map connected_in earlier
  pub reads : Reads start tokens (flat_map ended earlier) start left

-- all statements of a text
pub record TextRead (tokens : List Token) (now : Statements) : Type 0 where
  pub statements : List Statement
  pub text : IsText tokens statements
  pub declares : map kept now.declarations.items ≡ flat_map declared_in statements
  pub connects : now.connections.items ≡ flat_map connected_in statements
  pub stands : wrong_from start tokens ≡ None

-- the statements of a text up to where some tokens are left: all end with a semicolon, or the text ends
pub data ReadSoFar : List Token → Statements → List Token → Type 0 where
  earlier_read : {tokens left : List Token} {now : Statements} → EarlierRead tokens now left → ReadSoFar tokens now left
  text_read : {tokens : List Token} {now : Statements} → TextRead tokens now → ReadSoFar tokens now []
