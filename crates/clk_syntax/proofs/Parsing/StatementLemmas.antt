-- What the statements of a text give to those who go over its declarations and connections.
use Rattle.std.proofs.lemmas.Bool.Decides.{nat_tests}
use Rattle.std.proofs.Common.{◌≡◌, ℕ, ◌+◌, ◌-◌, ◌≤◌, List, [], ◌∷◌, ◌++◌, map, length, subst, length-append, append-nil, append_assoc, suc, zero, arith, rules}
use Rattle.std.specs.List.{AllByRecursion, flat_map}
use Rattle.std.proofs.lemmas.Grind.{flat_map-append, common_steps}
use Rattle.std.proofs.lemmas.List.{length-map}
use Rattle.clk_syntax.specs.declared.texts.token.Symbol.TheVariants.{Number, Semicolon}
use Rattle.clk_syntax.specs.declared.texts.token.Token.{Token}
use Rattle.clk_syntax.specs.declared.texts.statements.Connection.{Connection}
use Rattle.clk_syntax.specs.Grammar.{Hop, Statement, nothing, declaration, chain, mark, bare, after_comma, listed, written_hop, written, ended, IsHop, IsStatement, IsText}
use Rattle.clk_syntax.specs.Source.{Declared, declared_in, connected_in, hops_from}
use Rattle.clk_syntax.specs.Tokens.{tokens_from, tokens_of, piece_at, piece_len}
use Rattle.clk_syntax.specs.Within.{IsNamed, IsNumber, HasNumbers, words_in}

-- each declaration has a name
pub named-all : (statements : List Statement) → AllByRecursion IsNamed (flat_map declared_in statements)
named-all [] = tt
named-all (nothing ∷ more) = named-all more
named-all (declaration first names class arguments ∷ more) = (omega arith, named-all more)
named-all (chain first hop hops ∷ more) = named-all more

-- names and arguments are tokens
words-append : (a b : List Declared) → words_in (a ++ b) ≡ words_in a + words_in b
words-append [] b = omega arith
words-append (d ∷ a) b = let more = words-append a b in omega arith

commas-length : (words : List Token) → length words ≤ length (flat_map after_comma words)
commas-length [] = omega arith
commas-length (word ∷ more) = let later = commas-length more in omega arith

listed-length : (words : List Token) → length words ≤ length (listed words)
listed-length words = search (rules, commas-length)

statement-length : (statement : Statement) → words_in (declared_in statement) ≤ length (written statement)
statement-length nothing = omega arith
statement-length (declaration first more class arguments) = search (rules, listed-length, length-append)
statement-length (chain first hop more) = omega arith

ended-length : (statements : List Statement) → words_in (flat_map declared_in statements) ≤ length (flat_map ended statements)
ended-length [] = omega arith
ended-length (statement ∷ more) = search (rules, statement-length, words-append, length-append, (ended-length more))

pub words-few : (tokens : List Token) (statements : List Statement) → IsText tokens statements → words_in (flat_map declared_in statements) ≤ length tokens
words-few tokens statements h = search (rules, ended-length, statement-length, flat_map-append, words-append, append-nil, length-append, length-map)

-- the numbers of ports
abbrev pub HasDigits : List ℕ → Token → Type 0
HasDigits text token = token.symbol ≡ Number → IsNumber text token

all-front : (P : Token → Type 0) (xs ys : List Token) → AllByRecursion P (xs ++ ys) → AllByRecursion P xs × AllByRecursion P ys
all-front P [] ys all = (tt, all)
all-front P (x ∷ xs) ys all = let rest = all-front P xs ys all.1 in ((all.0, rest.0), rest.1)

bare-digits : (text : List ℕ) (token : Token) → HasDigits text token → HasDigits text (bare token)
bare-digits text token h = search rules

all-bare : (text : List ℕ) (tokens : List Token) → AllByRecursion (HasDigits text) tokens → AllByRecursion (HasDigits text) (map bare tokens)
all-bare text [] all = tt
all-bare text (token ∷ tokens) all = (bare-digits text token all.0, all-bare text tokens all.1)

hop-digits : (text : List ℕ) (name : Token) (hop : Hop) → IsHop hop → AllByRecursion (HasDigits text) (written_hop hop) → HasNumbers text (record { from = name; output = hop.output; input = hop.input; to = hop.name })
hop-digits text name hop sound all = search (rules, all-front, append_assoc)

hops-digits : (text : List ℕ) (name : Token) (hops : List Hop) → AllByRecursion IsHop hops → AllByRecursion (HasDigits text) (flat_map written_hop hops) → AllByRecursion (HasNumbers text) (hops_from name hops)
hops-digits text name [] sound all = tt
hops-digits text name (hop ∷ more) sound all =
    let parts = all-front (HasDigits text) (written_hop hop) (flat_map written_hop more) all in
    (hop-digits text name hop sound.0 parts.0, hops-digits text hop.name more sound.1 parts.1)

statement-digits : (text : List ℕ) (statement : Statement) → IsStatement statement → AllByRecursion (HasDigits text) (written statement) → AllByRecursion (HasNumbers text) (connected_in statement)
statement-digits text nothing sound all = tt
statement-digits text (declaration first more class arguments) sound all = tt
statement-digits text (chain first hop more) sound all = hops-digits text first (hop ∷ more) (sound.1, sound.2) all.1

all-join : (P : Connection → Type 0) (xs ys : List Connection) → AllByRecursion P xs → AllByRecursion P ys → AllByRecursion P (xs ++ ys)
all-join P xs ys a b = grind (arith, common_steps, nat_tests)

statements-digits : (text : List ℕ) (earlier : List Statement) (last : Statement) → AllByRecursion IsStatement (earlier ++ last ∷ []) → AllByRecursion (HasDigits text) (flat_map ended earlier ++ written last)
    → AllByRecursion (HasNumbers text) (flat_map connected_in (earlier ++ last ∷ []))
statements-digits text [] last sound all = all-join (HasNumbers text) (connected_in last) [] (statement-digits text last sound.0 all) tt
statements-digits text (statement ∷ earlier) last sound all =
    let parts = all-front (HasDigits text) (ended statement) (flat_map ended earlier ++ written last) (subst (AllByRecursion (HasDigits text)) (append_assoc (ended statement) (flat_map ended earlier) (written last)) all) in
    let here = all-front (HasDigits text) (written statement) (mark Semicolon ∷ []) parts.0 in
    all-join (HasNumbers text) (connected_in statement) (flat_map connected_in (earlier ++ last ∷ [])) (statement-digits text statement sound.0 here.0) (statements-digits text earlier last sound.1 parts.1)

-- where the tokens of symbol Number are numbers, so are the ports
pub ports-digits : (text : List ℕ) (tokens : List Token) (statements : List Statement) → AllByRecursion (HasDigits text) tokens → IsText tokens statements → AllByRecursion (HasNumbers text) (flat_map connected_in statements)
ports-digits text tokens statements all h = search (rules, statements-digits, all-bare)

-- a text has no more tokens than bytes
tokens-from-few : (place inside : ℕ) (text : List ℕ) → length (tokens_from place inside text) ≤ length text
tokens-from-few place inside [] = omega arith
tokens-from-few place (suc inside) (byte ∷ rest) = let later = tokens-from-few (place + 1) inside rest in omega arith
tokens-from-few place zero (byte ∷ rest) = search (rules, length-append, (tokens-from-few (place + 1) (piece_len (piece_at byte rest) - 1) rest))

pub tokens-few : (text : List ℕ) → length (tokens_of text) ≤ length text
tokens-few text = tokens-from-few 0 0 text
