-- The tokens of a tree text, with their places (Click's language; comments and blanks as this project chose them).
use Rattle.std.specs.Prelude.{ℕ, ◌+◌, ◌-◌, List, [], ◌∷◌, ◌++◌, take, drop, Bool, false, ◌==◌, ◌&&◌, ◌||◌, nat_le, if◌then◌else◌, Option, Some, None, zero, suc}
use Rattle.std.specs.Option.{option_map}
use Rattle.std.specs.List.{position_or_len, prefix_len}
use Rattle.std.specs.Str.{all_ascii_digits}
use Rattle.clk_syntax.specs.declared.texts.token.Symbol.{Symbol}
use Rattle.clk_syntax.specs.declared.texts.token.Symbol.TheVariants.{Name, Number, OtherWord, Declares, LeadsTo, OpenPort, ClosePort, OpenArguments, CloseArguments, Comma, Semicolon, Nothing}
use Rattle.clk_syntax.specs.declared.texts.token.Token.{Token}
use Rattle.clk_syntax.specs.declared.texts.lexer.Piece.{Piece}
use Rattle.clk_syntax.specs.declared.texts.lexer.Piece.TheVariants as piece

-- a space, a tab, a line feed or a carriage return
abbrev pub is_blank : ℕ → Bool
is_blank byte = (byte == 32) || (byte == 9) || (byte == 10) || (byte == 13)

abbrev pub is_digit : ℕ → Bool
is_digit byte = nat_le 48 byte && nat_le byte 57

-- an ASCII letter, a digit or an underscore
abbrev pub is_word_byte : ℕ → Bool
is_word_byte byte = (nat_le 97 byte && nat_le byte 122) || (nat_le 65 byte && nat_le byte 90) || is_digit byte || (byte == 95)

-- whether a text begins with this byte
abbrev pub begins_with : ℕ → List ℕ → Bool
begins_with byte [] = false
begins_with byte (first ∷ rest) = first == byte

-- how many bytes there are up to the first `*/`, with it
abbrev pub comment_end : List ℕ → Option ℕ
comment_end [] = None
comment_end (byte ∷ rest) = if (byte == 42) && begins_with 47 rest then Some 2 else option_map suc (comment_end rest)

-- a comment that began with `/*`; one that isn't closed is a token of symbol `Nothing`
abbrev pub comment : Option ℕ → Piece
comment None = piece.Token Nothing 1
comment (Some n) = piece.Gap (2 + n)

-- what a word is, by its letters
abbrev pub word_symbol : ℕ → List ℕ → Symbol
word_symbol first word = if is_digit first then (if all_ascii_digits word then Number else OtherWord) else Name

-- a word of so many bytes at the front of a text that begins with this byte
abbrev pub word : ℕ → List ℕ → ℕ → Piece
word first text n = piece.Token (word_symbol first (take n text)) n

-- the symbol of the mark that this byte is, or `Nothing`
abbrev pub mark_of : ℕ → Symbol
mark_of byte =
    if byte == 91 then OpenPort
    else if byte == 93 then ClosePort
    else if byte == 40 then OpenArguments
    else if byte == 41 then CloseArguments
    else if byte == 44 then Comma
    else if byte == 59 then Semicolon
    else Nothing

-- What stands at the front of a text that has this byte first: blanks and comments mean nothing, and of several tokens it is the
-- longest.
abbrev pub piece_at : ℕ → List ℕ → Piece
piece_at byte rest =
    if is_blank byte then piece.Gap 1
    else if (byte == 47) && begins_with 47 rest then piece.Gap (position_or_len (λ b. b == 10) (byte ∷ rest))
    else if (byte == 47) && begins_with 42 rest then comment (comment_end (drop 1 rest))
    else if is_word_byte byte then word byte (byte ∷ rest) (prefix_len is_word_byte (byte ∷ rest))
    else if (byte == 58) && begins_with 58 rest then piece.Token Declares 2
    else if (byte == 45) && begins_with 62 rest then piece.Token LeadsTo 2
    else piece.Token (mark_of byte) 1

-- what stands at the front of a text, if it isn't empty
abbrev pub first_piece : List ℕ → Option Piece
first_piece [] = None
first_piece (byte ∷ rest) = Some (piece_at byte rest)

-- how many bytes a piece has
abbrev pub piece_len : Piece → ℕ
piece_len (piece.Gap n) = n
piece_len (piece.Token symbol n) = n

-- the token that a piece at this place is, if it is one
abbrev pub shown : ℕ → Piece → List Token
shown place (piece.Gap n) = []
shown place (piece.Token symbol n) = record { symbol = symbol; place = place; length = n } ∷ []

-- The tokens of a text that begins at this place, and whose first `inside` bytes belong to an earlier piece. At each byte that belongs to
-- no earlier piece a piece begins.
abbrev pub tokens_from : ℕ → ℕ → List ℕ → List Token
tokens_from place inside [] = []
tokens_from place (suc inside) (byte ∷ rest) = tokens_from (place + 1) inside rest
tokens_from place zero (byte ∷ rest) = shown place (piece_at byte rest) ++ tokens_from (place + 1) (piece_len (piece_at byte rest) - 1) rest

abbrev pub tokens_of : List ℕ → List Token
tokens_of text = tokens_from 0 0 text
