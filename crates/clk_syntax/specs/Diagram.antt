-- The syntax diagram of a tree text: what may stand after what (Click's language, as far as this project takes it).
use Rattle.std.specs.Prelude.{List, [], ◌∷◌, Bool, true, false, if◌then◌else◌, Option, Some, None}
use Rattle.clk_syntax.specs.declared.texts.token.Symbol.{Symbol}
use Rattle.clk_syntax.specs.declared.texts.token.Symbol.TheVariants.{Name, Number, OtherWord, Declares, LeadsTo, OpenPort, ClosePort, OpenArguments, CloseArguments, Comma, Semicolon}
use Rattle.clk_syntax.specs.declared.texts.token.Token.{Token}

-- The places between the tokens of a statement, by what was read last.
pub data Place : Type 0 where
  -- nothing of a statement yet
  start : Place
  -- a declaration or a chain: its first name; of a declaration a comma, a further name, `::`, the class
  first_name : Place
  comma : Place
  further_name : Place
  declares : Place
  class : Place
  -- its arguments: the parenthesis that opens, a word, a comma between words, the parenthesis that closes
  opened : Place
  argument : Place
  argument_comma : Place
  closed : Place
  -- of a chain: a bracket that opens an output port, its number, the bracket that closes it, `->`
  output_opened : Place
  output_number : Place
  output_closed : Place
  leads_to : Place
  -- of a chain: a bracket that opens an input port, its number, the bracket that closes it, and a name after `->`
  input_opened : Place
  input_number : Place
  input_closed : Place
  next_name : Place

-- the place after one more token, if it can stand there
abbrev pub after : Place → Symbol → Option Place
after start Name = Some first_name
after start Semicolon = Some start
after first_name Comma = Some comma
after first_name Declares = Some declares
after first_name OpenPort = Some output_opened
after first_name LeadsTo = Some leads_to
after comma Name = Some further_name
after further_name Comma = Some comma
after further_name Declares = Some declares
after declares Name = Some class
after class OpenArguments = Some opened
after class Semicolon = Some start
after opened Name = Some argument
after opened Number = Some argument
after opened OtherWord = Some argument
after opened CloseArguments = Some closed
after argument Comma = Some argument_comma
after argument CloseArguments = Some closed
after argument_comma Name = Some argument
after argument_comma Number = Some argument
after argument_comma OtherWord = Some argument
after closed Semicolon = Some start
after output_opened Number = Some output_number
after output_number ClosePort = Some output_closed
after output_closed LeadsTo = Some leads_to
after leads_to OpenPort = Some input_opened
after leads_to Name = Some next_name
after input_opened Number = Some input_number
after input_number ClosePort = Some input_closed
after input_closed Name = Some next_name
after next_name OpenPort = Some output_opened
after next_name LeadsTo = Some leads_to
after next_name Semicolon = Some start
after place symbol = None

-- whether a text may end here
abbrev pub may_end : Place → Bool
may_end start = true
may_end class = true
may_end closed = true
may_end next_name = true
may_end place = false

-- what is left from a token on, if it can't stand; else what the tokens after it leave
abbrev wrong_or : Option Place → List Token → (Place → Option (List Token)) → Option (List Token)
wrong_or None tokens more = Some tokens
wrong_or (Some next) tokens more = more next

-- What is left of some tokens, read from a place of the diagram on, from the first token on that can't stand there. Nothing is left if the
-- text ends inside a statement. None if all tokens can stand and the text may end.
abbrev pub wrong_from : Place → List Token → Option (List Token)
wrong_from place [] = if may_end place then None else Some []
wrong_from place (token ∷ more) = wrong_or (after place token.symbol) (token ∷ more) (λ next. wrong_from next more)
