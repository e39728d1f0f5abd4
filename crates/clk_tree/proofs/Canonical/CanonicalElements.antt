-- The line of an element in a canonical text.
use Rattle.std.proofs.Common.{◌≡◌, ℕ, ◌+◌, true, List, [], ◌∷◌, ◌++◌, map, length, codes, Option, Some, None, IfSome, refl, ap, ap₂, subst, append_assoc, append-nil, rules}
use Rattle.std.specs.List.{flat_map, AllByRecursion}
use Rattle.std.proofs.lemmas.List.Concat.{flat_map-append}
use Rattle.clk_syntax.specs.declared.texts.token.Symbol.TheVariants.{Declares, OpenArguments, CloseArguments, Comma, Semicolon}
use Rattle.clk_syntax.specs.declared.texts.token.Token.{Token}
use Rattle.clk_syntax.specs.Grammar.{Statement, declaration, mark, bare, after_comma, written_arguments, ended, IsWord}
use Rattle.clk_syntax.specs.Source.{letters, given}
use Rattle.clk_syntax.specs.Reading.{elements_of}
use Rattle.clk_tree.specs.Plan.{Planned}
use Rattle.clk_tree.specs.Canonical.{class_text, arguments_of, arguments_text, element_text}
use Rattle.clk_tree.proofs.Canonical.CanonicalSource.{BareElement, bare_element, element_line, IsWordText, IsNameText}
use Rattle.clk_tree.proofs.Canonical.CanonicalParts.{Part, spelled, sign, space, line_end, parts_text, word_token, parts_tokens, ends_word, ArePartsSound, AreLettered, parts-lexed, parts-lettered}
use Rattle.clk_tree.proofs.Canonical.CanonicalWords.{symbol-word, token-bare, symbol-name, class-name}
use Rattle.clk_tree.proofs.Canonical.CanonicalLines.{AreLines}

-- the parts of an argument after the first
abbrev comma_parts : List ℕ → List Part
comma_parts word = sign Comma ∷ space ∷ spelled word ∷ []

abbrev element_end : List Part
element_end = sign Semicolon ∷ line_end ∷ []

-- the text of what follows the first argument
commas-text : (words : List (List ℕ)) → parts_text (flat_map comma_parts words) ≡ flat_map (λ w. codes ", " ++ w) words
commas-text [] = refl
commas-text (word ∷ more) = ap (λ l. 44 ∷ 32 ∷ (word ++ l)) (commas-text more)

-- commas end words
commas-end : (words : List (List ℕ)) (tail : List Part) → ends_word tail ≡ true → ends_word (flat_map comma_parts words ++ tail) ≡ true
commas-end [] tail h = h
commas-end (word ∷ more) tail h = refl

commas-sound : (words : List (List ℕ)) (tail : List Part) → AllByRecursion IsWordText words → ends_word tail ≡ true → ArePartsSound tail → ArePartsSound (flat_map comma_parts words ++ tail)
commas-sound [] tail all ends sound = sound
commas-sound (word ∷ more) tail all ends sound = (refl, (all.0, commas-end more tail ends, commas-sound more tail all.1 ends sound))

-- the tokens of arguments
abbrev comma_tokens : ℕ → List (List ℕ) → List Token
comma_tokens place [] = []
comma_tokens place (word ∷ more) = word_token (place + 1 + 1) word ∷ comma_tokens (place + 1 + 1 + length word) more

abbrev argument_tokens : ℕ → List (List ℕ) → Option (List Token)
argument_tokens place [] = None
argument_tokens place (word ∷ more) = Some (word_token (place + 1) word ∷ comma_tokens (place + 1 + length word) more)

commas-written : (place : ℕ) (words : List (List ℕ)) (tail : List Part) (marks : List Token) → ((n : ℕ) → map bare (parts_tokens n tail) ≡ marks)
    → map bare (parts_tokens place (flat_map comma_parts words ++ tail)) ≡ flat_map after_comma (comma_tokens place words) ++ marks
commas-written place [] tail marks last = last place
commas-written place (word ∷ more) tail marks last = search (rules, token-bare, (commas-written (place + 1 + 1 + length word) more tail marks last))

commas-letters : (text : List ℕ) (place : ℕ) (words : List (List ℕ)) (tail : List Part) → AreLettered text place (flat_map comma_parts words ++ tail)
    → map (letters text) (comma_tokens place words) ≡ words
commas-letters text place [] tail h = refl
commas-letters text place (word ∷ more) tail h = ap₂ (λ (w : List ℕ) ws. w ∷ ws) h.0 (commas-letters text (place + 1 + 1 + length word) more tail h.1)

commas-words : (place : ℕ) (words : List (List ℕ)) → AllByRecursion IsWord (comma_tokens place words)
commas-words place [] = tt
commas-words place (word ∷ more) = (symbol-word word, commas-words (place + 1 + 1 + length word) more)

-- arguments before the end of a line
abbrev end_parts : List (List ℕ) → List Part
end_parts [] = element_end
end_parts (word ∷ more) = sign OpenArguments ∷ spelled word ∷ (flat_map comma_parts more ++ sign CloseArguments ∷ element_end)

end-text : (words : List (List ℕ)) → parts_text (end_parts words) ≡ arguments_text words ++ codes ";\n"
end-text words = search (rules, flat_map-append, sign, commas-text, append_assoc)

end-sound : (words : List (List ℕ)) → AllByRecursion IsWordText words → (ends_word (end_parts words) ≡ true) × ArePartsSound (end_parts words)
end-sound words all = search (rules, commas-end, sign, commas-sound)

end-written : (place : ℕ) (words : List (List ℕ)) → map bare (parts_tokens place (end_parts words)) ≡ written_arguments (argument_tokens place words) ++ mark Semicolon ∷ []
end-written place words = search (rules, token-bare, commas-written, sign, append_assoc)

end-letters : (text : List ℕ) (place : ℕ) (words : List (List ℕ)) → AreLettered text place (end_parts words) → map (letters text) (given (argument_tokens place words)) ≡ words
end-letters text place words h = search (rules, commas-letters, sign)

end-words : (place : ℕ) (words : List (List ℕ)) → IfSome (argument_tokens place words) (AllByRecursion IsWord)
end-words place words = search (rules, symbol-word, commas-words)

-- a whole line
abbrev element_parts : List ℕ → List ℕ → List (List ℕ) → List Part
element_parts name class words = spelled name ∷ space ∷ sign Declares ∷ space ∷ spelled class ∷ end_parts words

abbrev class_place : ℕ → List ℕ → ℕ
class_place place name = place + length name + 1 + 2 + 1

abbrev element_statement : ℕ → List ℕ → List ℕ → List (List ℕ) → Statement
element_statement place name class words =
    declaration (word_token place name) [] (word_token (class_place place name) class) (argument_tokens (class_place place name + length class) words)

abbrev line_element : List ℕ → List ℕ → List (List ℕ) → BareElement
line_element name class words = record { name = name; class = class; arguments = words }

element-sound : (name class : List ℕ) (words : List (List ℕ)) → IsNameText name → IsNameText class → AllByRecursion IsWordText words → ArePartsSound (element_parts name class words)
element-sound name class words n c all = let end = end-sound words all in (n.word, refl, (refl, (c.word, end.0, end.1)))

element-written : (place : ℕ) (name class : List ℕ) (words : List (List ℕ))
    → map bare (parts_tokens place (element_parts name class words)) ≡ flat_map ended (element_statement place name class words ∷ [])
element-written place name class words = search (rules, token-bare, end-written, append-nil)

element-declares : (text : List ℕ) (place : ℕ) (name class : List ℕ) (words : List (List ℕ)) → AreLettered text place (element_parts name class words)
    → map bare_element (elements_of text (element_statement place name class words ∷ [])) ≡ line_element name class words ∷ []
element-declares text place name class words h = search (rules, end-letters)

parts-lines : (text name class : List ℕ) (words : List (List ℕ)) → IsNameText name → IsNameText class → AllByRecursion IsWordText words
    → AreLines text (parts_text (element_parts name class words)) (line_element name class words ∷ []) []
parts-lines text name class words n c all = record {
  read = λ place rest at. record {
    statements = element_statement place name class words ∷ [];
    sound = ((symbol-name name n, tt, symbol-name class c, end-words (class_place place name + length class) words), tt);
    tokens = parts_tokens place (element_parts name class words);
    are = parts-lexed place (element_parts name class words) rest (element-sound name class words n c all);
    written_so = element-written place name class words;
    declare = element-declares text place name class words (parts-lettered text place (element_parts name class words) rest at);
    connect = refl;
  };
}

pub element-lines : (text : List ℕ) (e : Planned) → IsNameText e.name → AllByRecursion IsWordText (arguments_of e.class) → AreLines text (element_text e) (element_line e ∷ []) []
element-lines text e n all =
    subst (λ l. AreLines text l (element_line e ∷ []) []) (ap (λ l. e.name ++ (codes " :: " ++ (class_text e.class ++ l))) (end-text (arguments_of e.class)))
    (parts-lines text e.name (class_text e.class) (arguments_of e.class) n (class-name e.class) all)
