-- The words of a canonical text: their tokens, the names of classes, and numbers.
use Rattle.std.proofs.Common.{◌≡◌, ℕ, ◌<◌, ◌^◌, ◌&&◌, true, List, [], ◌∷◌, length, decimal, refl, ap, ◌∙◌, arith, rules}
use Rattle.std.specs.List.{list_all}
use Rattle.std.specs.Char.{is_ascii_digit}
use Rattle.std.specs.Str.{all_ascii_digits}
use Rattle.std.specs.Str.Parse.{digits_value}
use Rattle.std.proofs.lemmas.Bool.{and_parts}
use Rattle.std.proofs.lemmas.Bool.Decides.{nat_tests}
use Rattle.std.proofs.lemmas.Fmt.{digits_decimal, digits_value-decimal, decimal_is_IsNumeral}
use Rattle.std.proofs.lemmas.Str.Parse.{numerals_by_value, tells_all_ascii_digits}
use Rattle.clk_syntax.specs.declared.texts.token.Symbol.TheVariants.{Name, Number}
use Rattle.clk_syntax.specs.Grammar.{is_word, bare}
use Rattle.clk_syntax.specs.Tokens.{is_word_byte}
use Rattle.clk_syntax.specs.Classes.{Class}
use Rattle.clk_syntax.proofs.Callers.Tokens.{bare-word}
use Rattle.clk_tree.specs.Canonical.{class_text}
use Rattle.clk_tree.proofs.Canonical.CanonicalSource.{IsWordText, IsNameText}
use Rattle.clk_tree.proofs.Canonical.CanonicalParts.{symbol_of, word_token}

-- a word's token is a word, and a name's a name
pub symbol-word : (word : List ℕ) → is_word (symbol_of word) ≡ true
symbol-word word = search rules

pub token-bare : (place : ℕ) (word : List ℕ) → bare (word_token place word) ≡ word_token place word
token-bare place word = bare-word (word_token place word) (symbol-word word)

pub symbol-name : (name : List ℕ) → IsNameText name → symbol_of name ≡ Name
symbol-name name h = search rules

-- classes have names
pub class-name : (class : Class) → IsNameText (class_text class)
class-name class = search rules

-- a number of digits: its word, its symbol and its value
digit-letter : (byte : ℕ) → is_ascii_digit byte ≡ true → is_word_byte byte ≡ true
digit-letter byte e = grind (arith, nat_tests)

digits-letters : (digits : List ℕ) → all_ascii_digits digits ≡ true → list_all is_word_byte digits ≡ true
digits-letters [] all = refl
digits-letters (byte ∷ more) all =
    let parts = and_parts (is_ascii_digit byte) (all_ascii_digits more) all in
    ap (λ b. b && list_all is_word_byte more) (digit-letter byte parts.0) ∙ digits-letters more parts.1

digits-symbol : (digits : List ℕ) → 0 < length digits → all_ascii_digits digits ≡ true → symbol_of digits ≡ Number
digits-symbol digits some all = search (rules, and_parts)

digits-word : (digits : List ℕ) → 0 < length digits → all_ascii_digits digits ≡ true → IsWordText digits
digits-word digits some all = search (rules, digits-letters)

-- a word of digits that has this value
pub record IsNumberText (n : ℕ) (digits : List ℕ) : Type 0 where
  pub word : IsWordText digits
  pub symbol : symbol_of digits ≡ Number
  pub all : all_ascii_digits digits ≡ true
  pub value : digits_value 10 digits ≡ n

pub decimal-number : (n : ℕ) → n < 2 ^ 64 → IsNumberText n (decimal n)
decimal-number n small =
    let own = numerals_by_value (λ ds. all_ascii_digits ds ≡ true) tells_all_ascii_digits in
    let all = digits_decimal own n small in
    let some = (decimal_is_IsNumeral n small).0.0 in
    record { word = digits-word (decimal n) some all; symbol = digits-symbol (decimal n) some all; all = all; value = digits_value-decimal own n small }

pub zero-number : IsNumberText 0 (48 ∷ [])
zero-number = record { word = record { some = refl; letters = refl }; symbol = refl; all = refl; value = refl }
