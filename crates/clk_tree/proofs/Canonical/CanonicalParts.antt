-- The tokens of a text that is made of words, marks and blanks.
use Rattle.std.proofs.lemmas.Grind.{common_steps}
use Rattle.std.proofs.Common.{◌≡◌, ℕ, ◌+◌, ◌-◌, Bool, true, false, cond, List, [], ◌∷◌, ◌++◌, length, drop, refl, sym, ap, ◌∙◌, append_assoc, arith, rules}
use Rattle.std.proofs.Math.Seq.{take-append_seam, drop-append_seam}
use Rattle.std.proofs.lemmas.Bool.{and_parts}
use Rattle.std.proofs.lemmas.List.{drop-drop, length-append}
use Rattle.std.specs.Prelude.{⊤}
use Rattle.std.specs.List.{flat_map, list_all, prefix_len}
use Rattle.clk_syntax.specs.declared.texts.token.Symbol.{Symbol}
use Rattle.clk_syntax.specs.declared.texts.token.Symbol.TheVariants.{Name, Number, OtherWord, Declares, LeadsTo, OpenPort, ClosePort, OpenArguments, CloseArguments, Comma, Semicolon, Nothing}
use Rattle.clk_syntax.specs.declared.texts.token.Token.{Token}
use Rattle.clk_syntax.specs.declared.texts.lexer.Piece.TheVariants as piece
use Rattle.clk_syntax.specs.Tokens.{is_word_byte, word_symbol, piece_at, piece_len, shown, tokens_from}
use Rattle.clk_syntax.specs.Source.{letters}
use Rattle.clk_syntax.proofs.Callers.Tokens.{tokens-after}
use Rattle.clk_tree.proofs.Canonical.CanonicalSource.{IsWordText}

-- a part of a text
pub data Part : Type 0 where
  spelled : List ℕ → Part
  sign : Symbol → Part
  space : Part
  line_end : Part

abbrev pub sign_text : Symbol → List ℕ
sign_text Declares = 58 ∷ 58 ∷ []
sign_text LeadsTo = 45 ∷ 62 ∷ []
sign_text OpenPort = 91 ∷ []
sign_text ClosePort = 93 ∷ []
sign_text OpenArguments = 40 ∷ []
sign_text CloseArguments = 41 ∷ []
sign_text Comma = 44 ∷ []
sign_text Semicolon = 59 ∷ []
sign_text symbol = []

-- whether a symbol is a mark
abbrev pub is_sign : Symbol → Bool
is_sign Name = false
is_sign Number = false
is_sign OtherWord = false
is_sign Nothing = false
is_sign symbol = true

abbrev pub part_text : Part → List ℕ
part_text (spelled word) = word
part_text (sign symbol) = sign_text symbol
part_text space = 32 ∷ []
part_text line_end = 10 ∷ []

abbrev pub parts_text : List Part → List ℕ
parts_text parts = flat_map part_text parts

-- the symbol and the token of a word
abbrev pub symbol_of : List ℕ → Symbol
symbol_of [] = Name
symbol_of (byte ∷ more) = word_symbol byte (byte ∷ more)

abbrev pub word_token : ℕ → List ℕ → Token
word_token place word = record { symbol = symbol_of word; place = place; length = length word }

abbrev pub part_tokens : ℕ → Part → List Token
part_tokens place (spelled word) = word_token place word ∷ []
part_tokens place (sign symbol) = record { symbol = symbol; place = place; length = length (sign_text symbol) } ∷ []
part_tokens place space = []
part_tokens place line_end = []

abbrev pub parts_tokens : ℕ → List Part → List Token
parts_tokens place [] = []
parts_tokens place (part ∷ more) = part_tokens place part ++ parts_tokens (place + length (part_text part)) more

-- whether parts are some and begin with no word
abbrev pub ends_word : List Part → Bool
ends_word [] = false
ends_word (spelled word ∷ more) = false
ends_word (part ∷ more) = true

-- parts in which each word ends before the next part
abbrev pub ArePartsSound : List Part → Type 0
ArePartsSound [] = ⊤
ArePartsSound (spelled word ∷ more) = IsWordText word × (ends_word more ≡ true) × ArePartsSound more
ArePartsSound (sign symbol ∷ more) = (is_sign symbol ≡ true) × ArePartsSound more
ArePartsSound (part ∷ more) = ArePartsSound more

-- each word of parts has its letters in the text
abbrev pub AreLettered : List ℕ → ℕ → List Part → Type 0
AreLettered text place [] = ⊤
AreLettered text place (spelled word ∷ more) = (letters text (word_token place word) ≡ word) × AreLettered text (place + length word) more
AreLettered text place (part ∷ more) = AreLettered text (place + length (part_text part)) more

-- a word goes as far as its bytes
word-length : (word rest : List ℕ) → list_all is_word_byte word ≡ true → prefix_len is_word_byte rest ≡ 0 → prefix_len is_word_byte (word ++ rest) ≡ length word
word-length [] rest all stops = stops
word-length (byte ∷ word) rest all stops =
    let parts = and_parts (is_word_byte byte) (list_all is_word_byte word) all in
    let more = word-length word rest parts.1 stops in
    ap (λ b. cond b (1 + prefix_len is_word_byte (word ++ rest)) 0) parts.0 ∙ omega (arith, more)

word-lexed : (place : ℕ) (word rest : List ℕ) → IsWordText word → prefix_len is_word_byte rest ≡ 0
    → tokens_from place 0 (word ++ rest) ≡ word_token place word ∷ tokens_from (place + length word) 0 rest
word-lexed place [] rest h stops = absurd (let e = h.some in cc)
word-lexed place (byte ∷ word) rest h stops =
    ap (λ p. shown place p ++ tokens_from (place + 1) (piece_len p - 1) (word ++ rest)) first
    ∙ ap (λ n. word_token place (byte ∷ word) ∷ tokens_from (place + 1) n (word ++ rest)) one_less
    ∙ ap (λ l. word_token place (byte ∷ word) ∷ l) (tokens-after (place + 1) (length word) (word ++ rest))
    ∙ ap (λ n. word_token place (byte ∷ word) ∷ tokens_from n 0 (drop (length word) (word ++ rest))) there
    ∙ ap (λ l. word_token place (byte ∷ word) ∷ tokens_from (place + length (byte ∷ word)) 0 l) (drop-append_seam word rest)
  where
    whole : prefix_len is_word_byte (byte ∷ (word ++ rest)) ≡ length (byte ∷ word)
    whole = word-length (byte ∷ word) rest h.letters stops

    first : piece_at byte (word ++ rest) ≡ piece.Token (symbol_of (byte ∷ word)) (length (byte ∷ word))
    first = search (rules, tokens-after, drop-append_seam, word-length, and_parts, take-append_seam, whole)

    one_less : length (byte ∷ word) - 1 ≡ length word
    one_less = omega arith

    there : place + 1 + length word ≡ place + length (byte ∷ word)
    there = omega arith

two_more : (place : ℕ) → place + 1 + 1 ≡ place + 2
two_more place = omega arith

sign-lexed : (place : ℕ) (symbol : Symbol) (rest : List ℕ) → is_sign symbol ≡ true
    → tokens_from place 0 (sign_text symbol ++ rest) ≡ part_tokens place (sign symbol) ++ tokens_from (place + length (sign_text symbol)) 0 rest
sign-lexed place Name rest h = absurd (cc)
sign-lexed place Number rest h = absurd (cc)
sign-lexed place OtherWord rest h = absurd (cc)
sign-lexed place Nothing rest h = absurd (cc)
sign-lexed place Declares rest h = ap (λ n. part_tokens place (sign Declares) ++ tokens_from n 0 rest) (two_more place)
sign-lexed place LeadsTo rest h = ap (λ n. part_tokens place (sign LeadsTo) ++ tokens_from n 0 rest) (two_more place)
sign-lexed place OpenPort rest h = refl
sign-lexed place ClosePort rest h = refl
sign-lexed place OpenArguments rest h = refl
sign-lexed place CloseArguments rest h = refl
sign-lexed place Comma rest h = refl
sign-lexed place Semicolon rest h = refl

parts-end : (parts : List Part) (rest : List ℕ) → ArePartsSound parts → ends_word parts ≡ true → prefix_len is_word_byte (parts_text parts ++ rest) ≡ 0
parts-end parts rest sound ends = search (rules, append_assoc)

-- one part before others
part-then : (place : ℕ) (part : Part) (more : List Part) (rest : List ℕ)
    → tokens_from place 0 (part_text part ++ (parts_text more ++ rest)) ≡ part_tokens place part ++ tokens_from (place + length (part_text part)) 0 (parts_text more ++ rest)
    → tokens_from (place + length (part_text part)) 0 (parts_text more ++ rest)
    ≡ parts_tokens (place + length (part_text part)) more ++ tokens_from (place + length (part_text part) + length (parts_text more)) 0 rest
    → tokens_from place 0 (parts_text (part ∷ more) ++ rest) ≡ parts_tokens place (part ∷ more) ++ tokens_from (place + length (parts_text (part ∷ more))) 0 rest
part-then place part more rest one others = search (rules, append_assoc, length-append)

-- the tokens of parts, whatever follows
pub parts-lexed : (place : ℕ) (parts : List Part) (rest : List ℕ) → ArePartsSound parts
    → tokens_from place 0 (parts_text parts ++ rest) ≡ parts_tokens place parts ++ tokens_from (place + length (parts_text parts)) 0 rest
parts-lexed place [] rest sound = let e : place ≡ place + 0 = omega arith in ap (λ n. tokens_from n 0 rest) e
parts-lexed place (spelled word ∷ more) rest sound = grind (arith, common_steps, part-then, word-lexed, parts-end, sign-lexed, (parts-lexed (place + length word) more rest sound.2))
parts-lexed place (sign symbol ∷ more) rest sound = grind (arith, common_steps, part-then, word-lexed, parts-end, sign-lexed, (parts-lexed (place + length (sign_text symbol)) more rest sound.1))
parts-lexed place (space ∷ more) rest sound = part-then place space more rest refl (parts-lexed (place + 1) more rest sound)
parts-lexed place (line_end ∷ more) rest sound = part-then place line_end more rest refl (parts-lexed (place + 1) more rest sound)

-- what stands after a piece
pub after-piece : (text : List ℕ) (place : ℕ) (front rest : List ℕ) → drop place text ≡ front ++ rest → drop (place + length front) text ≡ rest
after-piece text place front rest at = sym (drop-drop (length front) place text) ∙ ap (drop (length front)) at ∙ drop-append_seam front rest

after-part : (text : List ℕ) (place : ℕ) (part : Part) (more : List Part) (rest : List ℕ) → drop place text ≡ parts_text (part ∷ more) ++ rest
    → drop (place + length (part_text part)) text ≡ parts_text more ++ rest
after-part text place part more rest at = after-piece text place (part_text part) (parts_text more ++ rest) (at ∙ append_assoc (part_text part) (parts_text more) rest)

pub parts-lettered : (text : List ℕ) (place : ℕ) (parts : List Part) (rest : List ℕ) → drop place text ≡ parts_text parts ++ rest → AreLettered text place parts
parts-lettered text place [] rest at = tt
parts-lettered text place (spelled word ∷ more) rest at = search (rules, append_assoc, take-append_seam, after-part, (parts-lettered text (place + length word) more rest (after-part text place (spelled word) more rest at)))
parts-lettered text place (sign symbol ∷ more) rest at = parts-lettered text (place + length (sign_text symbol)) more rest (after-part text place (sign symbol) more rest at)
parts-lettered text place (space ∷ more) rest at = parts-lettered text (place + 1) more rest (after-part text place space more rest at)
parts-lettered text place (line_end ∷ more) rest at = parts-lettered text (place + 1) more rest (after-part text place line_end more rest at)
