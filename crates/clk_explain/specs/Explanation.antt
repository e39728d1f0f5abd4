-- What an explanation of a fault is, but for its words (this project's own choice).
use Rattle.std.specs.Prelude.{◌≡◌, ℕ, List, ◌++◌, length, take, drop, map, replicate, codes, ◌&&◌, nat_le, if◌then◌else◌, Option, Some, None}
use Rattle.clk_packet.specs.declared.fault.Fault.{Fault}
use Rattle.clk_packet.specs.declared.fault.Fault.TheVariants.{BadText, UnknownClass, BadArgument, NameTwice, UnknownName, BadPort, PortTwice, PortMissing, WrongKind, ManyDevices, NotATree}
use Rattle.clk_syntax.specs.Tokens.{is_blank}
use Rattle.clk_explain.specs.Position.{line_and_column, shown_before, shown_after}

-- at which byte of a tree text a fault is, if it is at one
abbrev pub place_of : Fault → Option ℕ
place_of (BadText offset) = Some offset
place_of (UnknownClass offset) = Some offset
place_of (BadArgument offset) = Some offset
place_of (NameTwice offset) = Some offset
place_of (UnknownName offset) = Some offset
place_of (BadPort offset) = Some offset
place_of (PortTwice offset) = Some offset
place_of (PortMissing offset) = Some offset
place_of (WrongKind offset) = Some offset
place_of (ManyDevices offset) = Some offset
place_of (NotATree offset) = Some offset
place_of fault = None

-- how a byte is shown: a blank as a space, another printable character of ASCII as itself, and what is neither as a question mark
abbrev pub shown : ℕ → ℕ
shown byte = if is_blank byte then 32 else if nat_le 33 byte && nat_le byte 126 then byte else 63

-- these words as a line
abbrev pub line_of : List ℕ → List ℕ
line_of words = map shown words ++ codes "\n"

-- LINE:COLUMN: and a sentence
abbrev pub heading : List ℕ → ℕ → List ℕ → List ℕ
heading text offset sentence = line_and_column text offset ++ codes ": " ++ line_of sentence

-- the line of an offset, and below it a caret at the offset
abbrev pub source : List ℕ → ℕ → List ℕ
source text offset =
    codes "    " ++ line_of (shown_before text offset ++ shown_after text offset)
    ++ codes "    " ++ replicate (length (shown_before text offset)) 32 ++ codes "^\n"

-- what is wrong, at this byte of a text or at none
abbrev pub wrong_at : List ℕ → Option ℕ → List ℕ → List ℕ
wrong_at text None sentence = line_of sentence
wrong_at text (Some offset) sentence = heading text offset sentence ++ source text offset

-- These bytes explain a fault of a text, in some words.
pub record Explains (text : List ℕ) (fault : Fault) (bytes : List ℕ) : Type 0 where
  pub sentence : List ℕ
  pub expected : List ℕ
  pub is : bytes ≡ wrong_at text (place_of fault) sentence ++ line_of expected

-- a buffer after bytes were written to its front, as many as it has room for
abbrev pub filled : List ℕ → List ℕ → List ℕ
filled bytes buffer = take (length buffer) bytes ++ drop (length bytes) buffer
