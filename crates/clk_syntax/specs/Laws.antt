-- What the grammar of a tree text and its diagram say of each other.
use Rattle.std.specs.Prelude.{◌≡◌, List, [], ◌∷◌, ◌++◌, None, Some}
use Rattle.clk_syntax.specs.declared.texts.token.Token.{Token}
use Rattle.clk_syntax.specs.Diagram.{start, wrong_from}
use Rattle.clk_syntax.specs.Grammar.{Statement, IsText}

-- no token of a text of statements is wrong
abbrev pub TextsCanBeRead : Type 0
TextsCanBeRead = (tokens : List Token) (statements : List Statement) → IsText tokens statements → wrong_from start tokens ≡ None

-- tokens are those of one text of statements at most
abbrev pub TextsHaveOneReading : Type 0
TextsHaveOneReading = (tokens : List Token) (statements others : List Statement) → IsText tokens statements → IsText tokens others → statements ≡ others

-- tokens none of which is wrong are those of a text of statements
abbrev pub RightTokensAreTexts : Type 0
RightTokensAreTexts = (tokens : List Token) → wrong_from start tokens ≡ None → (statements : List Statement) × IsText tokens statements

-- some text begins with these tokens
abbrev pub CanGoOn : List Token → Type 0
CanGoOn before = (more : List Token) × (statements : List Statement) × IsText (before ++ more) statements

-- no text begins with these tokens and the first of others; if there are no others, the tokens themselves are no text
abbrev pub CannotGoOn : List Token → List Token → Type 0
CannotGoOn before [] = (statements : List Statement) → ¬ (IsText before statements)
CannotGoOn before (token ∷ others) = (more : List Token) (statements : List Statement) → ¬ (IsText (before ++ token ∷ more) statements)

-- The tokens before the first wrong one begin some text, and no text begins with these and it. So a fault stands at the first token such
-- that no text begins with the tokens up to it.
abbrev pub WrongTokensCannotBeMended : Type 0
WrongTokensCannotBeMended = (tokens wrong : List Token) → wrong_from start tokens ≡ Some wrong
    → (before : List Token) × (tokens ≡ before ++ wrong) × CanGoOn before × CannotGoOn before wrong
