-- The grammar of a tree text: statements, and how they are written as tokens (Click's language, as far as this project takes it).
use Rattle.std.specs.Prelude.{◌≡◌, List, [], ◌∷◌, ◌++◌, map, Bool, true, false, if◌then◌else◌, Option, Some, None, ⊤, IfSome}
use Rattle.std.specs.List.{flat_map, AllByRecursion}
use Rattle.clk_syntax.specs.declared.texts.token.Symbol.{Symbol}
use Rattle.clk_syntax.specs.declared.texts.token.Symbol.TheVariants.{Name, Number, OtherWord, Declares, LeadsTo, OpenPort, ClosePort, OpenArguments, CloseArguments, Comma, Semicolon}
use Rattle.clk_syntax.specs.declared.texts.token.Token.{Token}

-- A step of a chain: the output port of the name before it, its own input port, and its name. A port that isn't written is None.
pub record Hop : Type 0 where
  pub output : Option Token
  pub input : Option Token
  pub name : Token

-- A statement: none at all; names, at least one, of a class, with arguments in parentheses or none; or a chain from a name through one hop
-- or more.
pub data Statement : Type 0 where
  nothing : Statement
  declaration : Token → List Token → Token → Option (List Token) → Statement
  chain : Token → Hop → List Hop → Statement

-- a mark stands for itself, wherever it is
abbrev pub mark : Symbol → Token
mark symbol = record { symbol = symbol; place = 0; length = 0 }

abbrev pub is_word : Symbol → Bool
is_word Name = true
is_word Number = true
is_word OtherWord = true
is_word symbol = false

-- a token as the grammar sees it: of a mark, its place doesn't matter
abbrev pub bare : Token → Token
bare token = if is_word token.symbol then token else mark token.symbol

-- `, WORD`
abbrev pub after_comma : Token → List Token
after_comma word = mark Comma ∷ word ∷ []

-- `WORD, WORD, ..`
abbrev pub listed : List Token → List Token
listed [] = []
listed (word ∷ more) = word ∷ flat_map after_comma more

-- `(WORD, WORD, ..)`, or nothing if no arguments are written
abbrev pub written_arguments : Option (List Token) → List Token
written_arguments None = []
written_arguments (Some words) = mark OpenArguments ∷ listed words ++ mark CloseArguments ∷ []

-- `[NUMBER]`, or nothing if no port is written
abbrev pub written_port : Option Token → List Token
written_port None = []
written_port (Some number) = mark OpenPort ∷ number ∷ mark ClosePort ∷ []

-- `[NUMBER] -> [NUMBER] NAME`
abbrev pub written_hop : Hop → List Token
written_hop hop = written_port hop.output ++ mark LeadsTo ∷ written_port hop.input ++ hop.name ∷ []

-- `NAME, NAME :: CLASS(WORD, ..)`, or `NAME -> NAME -> ..`
abbrev pub written : Statement → List Token
written nothing = []
written (declaration first more class arguments) = listed (first ∷ more) ++ mark Declares ∷ class ∷ written_arguments arguments
written (chain first hop more) = first ∷ flat_map written_hop (hop ∷ more)

-- a statement and the semicolon after it
abbrev pub ended : Statement → List Token
ended statement = written statement ++ mark Semicolon ∷ []

abbrev pub IsName : Token → Type 0
IsName token = token.symbol ≡ Name

abbrev pub IsWord : Token → Type 0
IsWord token = is_word token.symbol ≡ true

abbrev pub IsPort : Option Token → Type 0
IsPort port = IfSome port (λ number. number.symbol ≡ Number)

abbrev pub IsHop : Hop → Type 0
IsHop hop = IsPort hop.output × IsPort hop.input × IsName hop.name

-- a statement in which names are names, ports are numbers, and arguments are words
abbrev pub IsStatement : Statement → Type 0
IsStatement nothing = ⊤
IsStatement (declaration first more class arguments) =
    IsName first × AllByRecursion IsName more × IsName class × IfSome arguments (AllByRecursion IsWord)
IsStatement (chain first hop more) = IsName first × IsHop hop × AllByRecursion IsHop more

-- These tokens are those of a text of statements: each but the last ends with a semicolon.
pub record IsText (tokens : List Token) (statements : List Statement) : Type 0 where
  pub earlier : List Statement
  pub last : Statement
  pub are : statements ≡ earlier ++ last ∷ []
  pub sound : AllByRecursion IsStatement statements
  pub written_so : map bare tokens ≡ flat_map ended earlier ++ written last
