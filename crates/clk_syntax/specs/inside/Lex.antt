-- How far the tokens of a text are read.
use Rattle.std.specs.Prelude.{◌≡◌, ℕ, ◌+◌, List, ◌++◌, length, drop, Bool, true, None}
use Rattle.clk_syntax.specs.declared.texts.token.Token.{Token}
use Rattle.clk_syntax.specs.Tokens.{comment_end, tokens_of, tokens_from}
use Rattle.clk_syntax.specs.Within.{AreWithin}

-- Up to this place the tokens of a text are these, and this is left of it. If a comment is known not to be closed, no comment that begins
-- here or later is.
pub record LexedTo (text : List ℕ) (tokens : List Token) (place : ℕ) (left : List ℕ) (unclosed : Bool) : Type 0 where
  pub are : tokens_of text ≡ tokens ++ tokens_from place 0 left
  pub fits : place + length left ≡ length text
  pub within : AreWithin (length text) tokens
  pub none_closed : unclosed ≡ true → comment_end (drop 1 left) ≡ None
