-- The lines of connections in a canonical text.
use Rattle.std.proofs.lemmas.Grind.{common_steps, elements}
use Rattle.std.proofs.Common.{◌≡◌, ℕ, ◌+◌, ◌≤◌, ◌<◌, List, [], ◌∷◌, map, length, decimal, Option, Some, slice_get, refl, arith, rules}
use Rattle.std.proofs.lemmas.Bool.Decides.{nat_tests}
use Rattle.std.specs.List.{flat_map, AllByRecursion}
use Rattle.clk_syntax.specs.declared.texts.token.Symbol.TheVariants.{LeadsTo, OpenPort, ClosePort, Semicolon}
use Rattle.clk_syntax.specs.declared.limits.TheConstants.{MAX_PORT}
use Rattle.clk_syntax.specs.Grammar.{Statement, chain, bare, ended}
use Rattle.clk_syntax.specs.Reading.{wires_of}
use Rattle.clk_tree.specs.Plan.{Planned}
use Rattle.clk_tree.specs.Canonical.{name_of, connection_text, inputs_text, connections_text}
use Rattle.clk_tree.proofs.Canonical.CanonicalSource.{BareWire, bare_wire, wire_line, input_lines, wire_lines, IsWordText, IsNameText, CanBeWritten}
use Rattle.clk_tree.proofs.Canonical.CanonicalParts.{Part, spelled, sign, space, line_end, parts_text, word_token, parts_tokens, ArePartsSound, AreLettered, parts-lexed, parts-lettered}
use Rattle.clk_tree.proofs.Canonical.CanonicalWords.{token-bare, symbol-name, IsNumberText, decimal-number, zero-number}
use Rattle.clk_tree.proofs.Canonical.CanonicalLines.{AreLines, lines-none, lines-then}

-- the digits of the port that each output is
abbrev zero_text : List ℕ
zero_text = 48 ∷ []

abbrev wire_parts : List ℕ → List ℕ → List ℕ → List Part
wire_parts from digits to =
    spelled from ∷ space ∷ sign OpenPort ∷ spelled zero_text ∷ sign ClosePort ∷ space ∷ sign LeadsTo ∷ space
    ∷ sign OpenPort ∷ spelled digits ∷ sign ClosePort ∷ space ∷ spelled to ∷ sign Semicolon ∷ line_end ∷ []

-- the places of its words
abbrev output_place : ℕ → List ℕ → ℕ
output_place place from = place + length from + 1 + 1

abbrev input_place : ℕ → List ℕ → ℕ
input_place place from = output_place place from + 1 + 1 + 1 + 2 + 1 + 1

abbrev to_place : ℕ → List ℕ → List ℕ → ℕ
to_place place from digits = input_place place from + length digits + 1 + 1

abbrev wire_statement : ℕ → List ℕ → List ℕ → List ℕ → Statement
wire_statement place from digits to =
    chain (word_token place from)
    (record { output = Some (word_token (output_place place from) zero_text); input = Some (word_token (input_place place from) digits); name = word_token (to_place place from digits) to })
    []

abbrev line_wire : List ℕ → Option ℕ → Option ℕ → List ℕ → BareWire
line_wire from output input to = record { from = from; output = output; input = input; to = to }

wire-sound : (from digits to : List ℕ) → IsWordText from → IsWordText digits → IsWordText to → ArePartsSound (wire_parts from digits to)
wire-sound from digits to f d t = (f, refl, (refl, (zero-number.word, refl, (refl, (refl, (refl, (d, refl, (refl, (t, refl, (refl, tt))))))))))

wire-written : (place : ℕ) (from digits to : List ℕ) → map bare (parts_tokens place (wire_parts from digits to)) ≡ flat_map ended (wire_statement place from digits to ∷ [])
wire-written place from digits to = search (rules, token-bare)

wire-connects : (text : List ℕ) (place : ℕ) (from digits to : List ℕ) (input : ℕ) → IsNumberText input digits → input ≤ MAX_PORT → AreLettered text place (wire_parts from digits to)
    → map bare_wire (wires_of text (wire_statement place from digits to ∷ [])) ≡ line_wire from (Some 0) (Some input) to ∷ []
wire-connects text place from digits to input number small h = search (rules, zero-number)

parts-lines : (text from digits to : List ℕ) (input : ℕ) → IsNameText from → IsNumberText input digits → input ≤ MAX_PORT → IsNameText to
    → AreLines text (parts_text (wire_parts from digits to)) [] (line_wire from (Some 0) (Some input) to ∷ [])
parts-lines text from digits to input f number small t = record {
  read = λ place rest at. record {
    statements = wire_statement place from digits to ∷ [];
    sound = ((symbol-name from f, (zero-number.symbol, number.symbol, symbol-name to t), tt), tt);
    tokens = parts_tokens place (wire_parts from digits to);
    are = parts-lexed place (wire_parts from digits to) rest (wire-sound from digits to f.word number.word t.word);
    written_so = wire-written place from digits to;
    declare = refl;
    connect = wire-connects text place from digits to input number small (parts-lettered text place (wire_parts from digits to) rest at);
  };
}

connection-lines : (text : List ℕ) (plan : List Planned) (source input : ℕ) (name : List ℕ) → IsNameText (name_of (slice_get plan source)) → input ≤ MAX_PORT → IsNameText name
    → AreLines text (connection_text plan source input name) [] (wire_line plan source input name ∷ [])
connection-lines text plan source input name from small to = parts-lines text (name_of (slice_get plan source)) (decimal input) name input from (decimal-number input (omega arith)) small to

-- each element of a plan has a name
abbrev pub HasNames : List Planned → Type 0
HasNames plan = (s : ℕ) → s < length plan → IsNameText (name_of (slice_get plan s))

pub has-names : (count : ℕ) (plan : List Planned) → AllByRecursion (CanBeWritten count) plan → HasNames plan
has-names count plan all s within = grind (arith, common_steps, elements, nat_tests)

-- the connections to each input
inputs-lines : (text : List ℕ) (plan : List Planned) (name : List ℕ) (input : ℕ) (sources : List ℕ) → HasNames plan → IsNameText name
    → input + length sources ≤ MAX_PORT + 1 → AllByRecursion (λ s. s < length plan) sources → AreLines text (inputs_text plan name input sources) [] (input_lines plan name input sources)
inputs-lines text plan name input [] names n small all = lines-none text
inputs-lines text plan name input (s ∷ more) names n small all =
    lines-then text (connection_text plan s input name) (inputs_text plan name (input + 1) more)
    (connection-lines text plan s input name (names s all.0) (omega arith) n) (inputs-lines text plan name (input + 1) more names n (omega arith) all.1)

-- the connections to a queue
queue-lines : (text : List ℕ) (plan : List Planned) (name : List ℕ) (sources : List ℕ) → HasNames plan → IsNameText name → AllByRecursion (λ s. s < length plan) sources
    → AreLines text (flat_map (λ s. connection_text plan s 0 name) sources) [] (map (λ s. wire_line plan s 0 name) sources)
queue-lines text plan name [] names n all = lines-none text
queue-lines text plan name (s ∷ more) names n all =
    lines-then text (connection_text plan s 0 name) (flat_map (λ s. connection_text plan s 0 name) more)
    (connection-lines text plan s 0 name (names s all.0) (omega arith) n) (queue-lines text plan name more names n all.1)

pub connections-lines : (text : List ℕ) (plan : List Planned) (e : Planned) → HasNames plan → CanBeWritten (length plan) e → AreLines text (connections_text plan e) [] (wire_lines plan e)
connections-lines text plan e names h = search (rules, inputs-lines, queue-lines)
