-- What holds of each token of a text, and that those of symbol Number are numbers.
use Rattle.std.proofs.Common.{◌≡◌, ℕ, ◌+◌, ◌-◌, ◌==◌, ◌&&◌, Bool, true, false, cond, if◌then◌else◌, List, [], ◌∷◌, take, drop, Option, Some, None, suc, zero, refl, sym, ap, ◌∙◌, add_comm, add-one, rules}
use Rattle.std.specs.List.{AllByRecursion, prefix_len, position_or_len}
use Rattle.clk_packet.proofs.Callers.Lists.{all-append}
use Rattle.clk_syntax.specs.declared.texts.token.Symbol.{Symbol}
use Rattle.clk_syntax.specs.declared.texts.token.Symbol.TheVariants.{Declares, LeadsTo, Nothing}
use Rattle.clk_syntax.specs.declared.texts.token.Token.{Token}
use Rattle.clk_syntax.specs.declared.texts.lexer.Piece.{Piece}
use Rattle.clk_syntax.specs.declared.texts.lexer.Piece.TheVariants as piece
use Rattle.clk_syntax.specs.Grammar.{is_word}
use Rattle.clk_syntax.specs.Tokens.{is_blank, is_word_byte, begins_with, comment, comment_end, word, word_symbol, mark_of, tokens_from, tokens_of, shown, piece_at, piece_len}
use Rattle.clk_syntax.proofs.Parsing.StatementLemmas.{HasDigits}

other : (b : Bool) (s t : Symbol) → is_word s ≡ false → is_word t ≡ false → is_word (if b then s else t) ≡ false
other b s t g h = search rules

mark-other : (byte : ℕ) → is_word (mark_of byte) ≡ false
mark-other byte = search (rules, other)

drop-tail : (place : ℕ) (text : List ℕ) (byte : ℕ) (rest : List ℕ) → drop place text ≡ byte ∷ rest → drop (suc place) text ≡ rest
drop-tail zero [] byte rest e = absurd (cc)
drop-tail zero (x ∷ xs) byte rest e = cc
drop-tail (suc place) [] byte rest e = absurd (cc)
drop-tail (suc place) (x ∷ xs) byte rest e = drop-tail place xs byte rest e

next : (place : ℕ) (text : List ℕ) (byte : ℕ) (rest : List ℕ) → drop place text ≡ byte ∷ rest → drop (place + 1) text ≡ rest
next place text byte rest e = ap (λ n. drop n text) (add-one place) ∙ drop-tail place text byte rest e

-- the word at the front of what is left
abbrev pub word_token : ℕ → ℕ → List ℕ → Token
word_token place byte rest = record {
  symbol = word_symbol byte (take (prefix_len is_word_byte (byte ∷ rest)) (byte ∷ rest));
  place = place;
  length = prefix_len is_word_byte (byte ∷ rest);
}

-- the piece that no blank, comment or word begins
abbrev mark_piece : ℕ → List ℕ → Piece
mark_piece byte rest = if (byte == 58) && begins_with 58 rest then piece.Token Declares 2 else if (byte == 45) && begins_with 62 rest then piece.Token LeadsTo 2 else piece.Token (mark_of byte) 1

-- What holds of marks, and of words by their letters, holds of each token of a text.
module _ (P : Token → Type 0) (text : List ℕ) (marks : (token : Token) → is_word token.symbol ≡ false → P token)
    (words : (place byte : ℕ) (rest : List ℕ) → drop place text ≡ byte ∷ rest → is_word_byte byte ≡ true → P (word_token place byte rest)) where
  abbrev Good : ℕ → Piece → Type 0
  Good place p = AllByRecursion P (shown place p)

  chosen : (place : ℕ) (b : Bool) (p q : Piece) → Good place p → Good place q → Good place (if b then p else q)
  chosen place true p q g h = g
  chosen place false p q g h = h

  marked : (place n : ℕ) (symbol : Symbol) → is_word symbol ≡ false → Good place (piece.Token symbol n)
  marked place n symbol is = (marks (record { symbol = symbol; place = place; length = n }) is, tt)

  comment-good : (place : ℕ) (found : Option ℕ) → Good place (comment found)
  comment-good place None = marked place 1 Nothing refl
  comment-good place (Some n) = tt

  piece-good : (place byte : ℕ) (rest : List ℕ) → drop place text ≡ byte ∷ rest → Good place (piece_at byte rest)
  piece-good place byte rest at =
      chosen place (is_blank byte) (piece.Gap 1) _ tt
      (chosen place ((byte == 47) && begins_with 47 rest) (piece.Gap (position_or_len (λ b. b == 10) (byte ∷ rest))) _ tt
      (chosen place ((byte == 47) && begins_with 42 rest) (comment (comment_end (drop 1 rest))) _ (comment-good place (comment_end (drop 1 rest))) (by_test (is_word_byte byte) refl)))
    where
      others : Good place (mark_piece byte rest)
      others =
          chosen place ((byte == 58) && begins_with 58 rest) (piece.Token Declares 2) _ (marked place 2 Declares refl)
          (chosen place ((byte == 45) && begins_with 62 rest) (piece.Token LeadsTo 2) (piece.Token (mark_of byte) 1) (marked place 2 LeadsTo refl) (marked place 1 (mark_of byte) (mark-other byte)))

      by_test : (b : Bool) → is_word_byte byte ≡ b
          → Good place (if b then word byte (byte ∷ rest) (prefix_len is_word_byte (byte ∷ rest)) else mark_piece byte rest)
      by_test true e = (words place byte rest at e, tt)
      by_test false e = others

  all-from : (place inside : ℕ) (rest : List ℕ) → drop place text ≡ rest → AllByRecursion P (tokens_from place inside rest)
  all-from place inside [] at = tt
  all-from place (suc inside) (byte ∷ rest) at = all-from (place + 1) inside rest (next place text byte rest at)
  all-from place zero (byte ∷ rest) at =
      all-append P (shown place (piece_at byte rest)) (tokens_from (place + 1) (piece_len (piece_at byte rest) - 1) rest) (piece-good place byte rest at)
      (all-from (place + 1) (piece_len (piece_at byte rest) - 1) rest (next place text byte rest at))

  pub all-tokens : AllByRecursion P (tokens_of text)
  all-tokens = all-from 0 0 text refl

-- a word has one byte at least
pub word-long : (byte : ℕ) (rest : List ℕ) → is_word_byte byte ≡ true → prefix_len is_word_byte (byte ∷ rest) ≡ suc (prefix_len is_word_byte rest)
word-long byte rest e = ap (λ b. cond b (1 + prefix_len is_word_byte rest) 0) e ∙ add_comm 1 (prefix_len is_word_byte rest) ∙ add-one (prefix_len is_word_byte rest)

-- each token of symbol Number is a number
number-at : (text : List ℕ) (place byte : ℕ) (rest : List ℕ) → drop place text ≡ byte ∷ rest → is_word_byte byte ≡ true → HasDigits text (word_token place byte rest)
number-at text place byte rest at e number = search (rules, word-long)

pub tokens-digits : (text : List ℕ) → AllByRecursion (HasDigits text) (tokens_of text)
tokens-digits text =
    all-tokens (HasDigits text) text (λ token other number. absurd (let word : true ≡ false = ap is_word (sym number) ∙ other in cc)) (number-at text)
