-- The names and arguments that a text declares are words, and its names begin with no digit.
use Rattle.std.proofs.Common.{◌≡◌, ℕ, ◌+◌, Bool, true, false, cond, List, [], ◌∷◌, map, take, drop, Some, None, refl, add-one, rules}
use Rattle.std.specs.List.{AllByRecursion, flat_map, list_all, prefix_len}
use Rattle.clk_packet.proofs.Callers.Lists.{all-append}
use Rattle.clk_syntax.specs.declared.texts.token.Symbol.TheVariants.{Name}
use Rattle.clk_syntax.specs.declared.texts.token.Token.{Token}
use Rattle.clk_syntax.specs.Grammar.{Statement, nothing, declaration, chain, is_word, IsName, IsWord, IsStatement, IsText}
use Rattle.clk_syntax.specs.Source.{Declared, Element, declared_in, letters, element, elements}
use Rattle.clk_syntax.specs.Tokens.{is_word_byte, tokens_of}
use Rattle.clk_syntax.specs.Reading.{elements_of}
use Rattle.clk_syntax.proofs.Callers.Tokens.{all-tokens, word_token, word-long, HoldsDeclared, declared-hold}
use Rattle.clk_tree.proofs.Canonical.CanonicalSource.{IsWordText, IsNameText, begins_with_digit}

-- the letters of a token that is a word, and of one that is a name
pub record HasLetters (text : List ℕ) (token : Token) : Type 0 where
  pub word : is_word token.symbol ≡ true → IsWordText (letters text token)
  pub name : token.symbol ≡ Name → begins_with_digit (letters text token) ≡ false

-- the longest front of bytes that pass
front-passes : (p : ℕ → Bool) (bytes : List ℕ) → list_all p (take (prefix_len p bytes) bytes) ≡ true
front-passes p [] = refl
front-passes p (byte ∷ bytes) = by_test (p byte) refl (front-passes p bytes)
  where
    by_test : (b : Bool) → p byte ≡ b → list_all p (take (prefix_len p bytes) bytes) ≡ true → list_all p (take (cond b (1 + prefix_len p bytes) 0) (byte ∷ bytes)) ≡ true
    by_test b e later = search (rules, add-one)

word-at : (text : List ℕ) (place byte : ℕ) (rest : List ℕ) → drop place text ≡ byte ∷ rest → is_word_byte byte ≡ true → HasLetters text (word_token place byte rest)
word-at text place byte rest at e = search (rules, word-long, front-passes)

mark-letters : (text : List ℕ) (token : Token) → is_word token.symbol ≡ false → HasLetters text token
mark-letters text token other = search rules

tokens-letters : (text : List ℕ) → AllByRecursion (HasLetters text) (tokens_of text)
tokens-letters text = all-tokens (HasLetters text) text (mark-letters text) (word-at text)

-- what is declared are names, and what is given are words
abbrev IsDeclared : Declared → Type 0
IsDeclared d = AllByRecursion IsName d.names × AllByRecursion IsWord d.arguments

all-declared : (statements : List Statement) → AllByRecursion IsStatement statements → AllByRecursion IsDeclared (flat_map declared_in statements)
all-declared [] sound = tt
all-declared (nothing ∷ more) sound = all-declared more sound.1
all-declared (chain first hop hops ∷ more) sound = all-declared more sound.1
all-declared (declaration first names class None ∷ more) sound = (((sound.0.0, sound.0.1), tt), all-declared more sound.1)
all-declared (declaration first names class (Some words) ∷ more) sound = (((sound.0.0, sound.0.1), sound.0.3), all-declared more sound.1)

-- an element of a text whose name and arguments are such
pub record IsSpelled (e : Element) : Type 0 where
  pub name : IsNameText e.name.letters
  pub arguments : AllByRecursion IsWordText e.arguments

word-texts : (text : List ℕ) (words : List Token) → AllByRecursion (HasLetters text) words → AllByRecursion IsWord words → AllByRecursion IsWordText (map (letters text) words)
word-texts text [] has are = tt
word-texts text (word ∷ words) has are = (has.0.word are.0, word-texts text words has.1 are.1)

names-spelled : (text : List ℕ) (class : Token) (arguments names : List Token) → AllByRecursion IsWordText (map (letters text) arguments)
    → AllByRecursion (HasLetters text) names → AllByRecursion IsName names → AllByRecursion IsSpelled (map (element text class arguments) names)
names-spelled text class arguments [] words has are = tt
names-spelled text class arguments (name ∷ names) words has are = search (rules, (names-spelled text class arguments names words has.1 are.1))

all-spelled : (text : List ℕ) (declared : List Declared) → AllByRecursion (HoldsDeclared (HasLetters text)) declared → AllByRecursion IsDeclared declared
    → AllByRecursion IsSpelled (elements text declared)
all-spelled text [] has are = tt
all-spelled text (d ∷ more) has are = search (rules, all-append, names-spelled, word-texts, (all-spelled text more has.1 are.1))

pub elements-spelled : (text : List ℕ) (statements : List Statement) → IsText (tokens_of text) statements → AllByRecursion IsSpelled (elements_of text statements)
elements-spelled text statements is = search (rules, all-spelled, declared-hold, mark-letters, tokens-letters, all-declared)
