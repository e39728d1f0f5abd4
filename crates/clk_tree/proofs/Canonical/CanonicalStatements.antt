-- The statements of the canonical text of a plan.
use Rattle.std.proofs.Common.{◌≡◌, ℕ, List, [], ◌∷◌, ◌++◌, map, length, refl, sym, ap, ◌∙◌, append-nil}
use Rattle.std.proofs.lemmas.List.Concat.{flat_map_single}
use Rattle.std.specs.List.{flat_map, AllByRecursion}
use Rattle.clk_packet.proofs.Callers.Lists.{all-append}
use Rattle.clk_syntax.specs.Grammar.{Statement, nothing, bare, ended, IsStatement, IsText}
use Rattle.clk_syntax.specs.Reading.{elements_of, wires_of}
use Rattle.clk_syntax.specs.Tokens.{tokens_from, tokens_of}
use Rattle.clk_tree.specs.Plan.{Planned}
use Rattle.clk_tree.specs.Canonical.{element_text, connections_text, canonical_text}
use Rattle.clk_tree.proofs.Canonical.CanonicalSource.{BareElement, BareWire, bare_element, bare_wire, element_line, wire_lines, CanBeWritten}
use Rattle.clk_tree.proofs.Canonical.CanonicalLines.{AreLines, elements-append, wires-append, lines-then, lines-as, lines-each}
use Rattle.clk_tree.proofs.Canonical.CanonicalElements.{element-lines}
use Rattle.clk_tree.proofs.Canonical.CanonicalWires.{HasNames, has-names, connections-lines}

-- A text of statements that declare and connect these.
record IsSource (text : List ℕ) (elements : List BareElement) (wires : List BareWire) : Type 0 where
  statements : List Statement
  is_text : IsText (tokens_of text) statements
  declare : map bare_element (elements_of text statements) ≡ elements
  connect : map bare_wire (wires_of text statements) ≡ wires

-- a text that is lines from its beginning to its end
source-of : (text : List ℕ) (elements : List BareElement) (wires : List BareWire) → AreLines text text elements wires → IsSource text elements wires
source-of text elements wires lines =
    let x = lines.read 0 [] (sym (append-nil text)) in
    let tokens : tokens_of text ≡ x.tokens = ap (tokens_from 0 0) (sym (append-nil text)) ∙ x.are ∙ append-nil x.tokens in
    record {
      statements = x.statements ++ nothing ∷ [];
      is_text = record {
        earlier = x.statements;
        last = nothing;
        are = refl;
        sound = all-append IsStatement x.statements (nothing ∷ []) x.sound (tt, tt);
        written_so = ap (map bare) tokens ∙ x.written_so ∙ sym (append-nil (flat_map ended x.statements));
      };
      declare = elements-append text x.statements (nothing ∷ []) ∙ append-nil (map bare_element (elements_of text x.statements)) ∙ x.declare;
      connect = wires-append text x.statements (nothing ∷ []) ∙ append-nil (map bare_wire (wires_of text x.statements)) ∙ x.connect;
    }

flat_map-none : {X Y : Type 0} (xs : List X) → flat_map {X = X} {A = Y} (λ x. []) xs ≡ []
flat_map-none [] = refl
flat_map-none (x ∷ xs) = flat_map-none xs

plan-lines : (text : List ℕ) (plan : List Planned) → AllByRecursion (CanBeWritten (length plan)) plan → AreLines text (canonical_text plan) (map element_line plan) (flat_map (wire_lines plan) plan)
plan-lines text plan all =
    let names : HasNames plan = has-names (length plan) plan all in
    lines-as text (flat_map element_text plan ++ flat_map (connections_text plan) plan)
    (ap (λ es. flat_map (λ e. element_line e ∷ []) plan ++ es) (flat_map-none plan) ∙ append-nil (flat_map (λ e. element_line e ∷ []) plan) ∙ flat_map_single element_line plan)
    (ap (λ ws. ws ++ flat_map (wire_lines plan) plan) (flat_map-none plan))
    (lines-then text (flat_map element_text plan) (flat_map (connections_text plan) plan)
    (lines-each (CanBeWritten (length plan)) text element_text (λ e. element_line e ∷ []) (λ e. []) (λ e h. element-lines text e h.name h.arguments) plan all)
    (lines-each (CanBeWritten (length plan)) text (connections_text plan) (λ e. []) (wire_lines plan) (λ e h. connections-lines text plan e names h) plan all))

-- The canonical text of a plan is a text of these statements, which declare and connect what its lines say.
pub record IsCanonicalSource (plan : List Planned) : Type 0 where
  pub statements : List Statement
  pub is_text : IsText (tokens_of (canonical_text plan)) statements
  pub elements : map bare_element (elements_of (canonical_text plan) statements) ≡ map element_line plan
  pub wires : map bare_wire (wires_of (canonical_text plan) statements) ≡ flat_map (wire_lines plan) plan

pub canonical-source : (plan : List Planned) → AllByRecursion (CanBeWritten (length plan)) plan → IsCanonicalSource plan
canonical-source plan all =
    let source = source-of (canonical_text plan) (map element_line plan) (flat_map (wire_lines plan) plan) (plan-lines (canonical_text plan) plan all) in
    record { statements = source.statements; is_text = source.is_text; elements = source.declare; wires = source.connect }
