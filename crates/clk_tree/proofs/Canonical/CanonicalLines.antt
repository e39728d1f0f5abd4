-- Lines of a text that declare and connect, one after another.
use Rattle.std.proofs.Common.{◌≡◌, ℕ, ◌+◌, List, [], ◌∷◌, ◌++◌, map, length, drop, refl, sym, ap, ap₂, subst, ◌∙◌, append_assoc, arith, rules}
use Rattle.std.proofs.lemmas.List.{length-append, map-append}
use Rattle.std.specs.List.{flat_map, AllByRecursion}
use Rattle.std.proofs.lemmas.List.Concat.{flat_map-append}
use Rattle.clk_packet.proofs.Callers.Lists.{all-append}
use Rattle.clk_syntax.specs.declared.texts.token.Token.{Token}
use Rattle.clk_syntax.specs.Grammar.{Statement, bare, ended, IsStatement}
use Rattle.clk_syntax.specs.Reading.{elements_of, wires_of}
use Rattle.clk_syntax.specs.Tokens.{tokens_from}
use Rattle.clk_tree.proofs.Canonical.CanonicalSource.{BareElement, BareWire, bare_element, bare_wire}
use Rattle.clk_tree.proofs.Canonical.CanonicalParts.{after-piece}

-- the statements of lines that stand at a place of a text, before a rest
pub record LinesRead (text : List ℕ) (place : ℕ) (lines rest : List ℕ) (elements : List BareElement) (wires : List BareWire) : Type 0 where
  pub statements : List Statement
  pub sound : AllByRecursion IsStatement statements
  pub tokens : List Token
  pub are : tokens_from place 0 (lines ++ rest) ≡ tokens ++ tokens_from (place + length lines) 0 rest
  pub written_so : map bare tokens ≡ flat_map ended statements
  pub declare : map bare_element (elements_of text statements) ≡ elements
  pub connect : map bare_wire (wires_of text statements) ≡ wires

-- Lines that declare and connect these, wherever they stand in a text.
pub record AreLines (text lines : List ℕ) (elements : List BareElement) (wires : List BareWire) : Type 0 where
  pub read : (place : ℕ) (rest : List ℕ) → drop place text ≡ lines ++ rest → LinesRead text place lines rest elements wires

pub elements-append : (text : List ℕ) (xs ys : List Statement) → map bare_element (elements_of text (xs ++ ys)) ≡ map bare_element (elements_of text xs) ++ map bare_element (elements_of text ys)
elements-append text xs ys = search (rules, flat_map-append, map-append)

pub wires-append : (text : List ℕ) (xs ys : List Statement) → map bare_wire (wires_of text (xs ++ ys)) ≡ map bare_wire (wires_of text xs) ++ map bare_wire (wires_of text ys)
wires-append text xs ys = search (rules, flat_map-append, map-append)

pub lines-none : (text : List ℕ) → AreLines text [] [] []
lines-none text = record {
  read = λ place rest at. record {
    statements = [];
    sound = tt;
    tokens = [];
    are = let e : place ≡ place + 0 = omega arith in ap (λ n. tokens_from n 0 rest) e;
    written_so = refl;
    declare = refl;
    connect = refl;
  };
}

pub lines-then : (text a b : List ℕ) {e f : List BareElement} {v w : List BareWire} → AreLines text a e v → AreLines text b f w → AreLines text (a ++ b) (e ++ f) (v ++ w)
lines-then text a b first second = record {
  read = λ place rest at.
      let at_first = at ∙ append_assoc a b rest in
      let x = first.read place (b ++ rest) at_first in
      let y = second.read (place + length a) rest (after-piece text place a (b ++ rest) at_first) in
      record {
        statements = x.statements ++ y.statements;
        sound = all-append IsStatement x.statements y.statements x.sound y.sound;
        tokens = x.tokens ++ y.tokens;
        are = ap (tokens_from place 0) (append_assoc a b rest)
            ∙ x.are
            ∙ ap (λ l. x.tokens ++ l) y.are
            ∙ ap (λ n. x.tokens ++ (y.tokens ++ tokens_from n 0 rest)) (there place)
            ∙ sym (append_assoc x.tokens y.tokens (tokens_from (place + length (a ++ b)) 0 rest));
        written_so = map-append bare x.tokens y.tokens ∙ ap₂ (λ (l m : List Token). l ++ m) x.written_so y.written_so ∙ sym (flat_map-append ended x.statements y.statements);
        declare = elements-append text x.statements y.statements ∙ ap₂ (λ (l m : List BareElement). l ++ m) x.declare y.declare;
        connect = wires-append text x.statements y.statements ∙ ap₂ (λ (l m : List BareWire). l ++ m) x.connect y.connect;
      };
}
  where
    there : (place : ℕ) → place + length a + length b ≡ place + length (a ++ b)
    there place = let all = length-append a b in omega (arith, all)

pub lines-as : (text lines : List ℕ) {e f : List BareElement} {v w : List BareWire} → e ≡ f → v ≡ w → AreLines text lines e v → AreLines text lines f w
lines-as text lines {e = e} {w = w} same_elements same_wires h = subst (λ es. AreLines text lines es w) same_elements (subst (λ ws. AreLines text lines e ws) same_wires h)

-- lines for each of many
pub lines-each : {X : Type 0} (P : X → Type 0) (text : List ℕ) (line : X → List ℕ) (elements : X → List BareElement) (wires : X → List BareWire)
    → ((x : X) → P x → AreLines text (line x) (elements x) (wires x)) → (xs : List X) → AllByRecursion P xs → AreLines text (flat_map line xs) (flat_map elements xs) (flat_map wires xs)
lines-each P text line elements wires each [] all = lines-none text
lines-each P text line elements wires each (x ∷ xs) all = lines-then text (line x) (flat_map line xs) (each x all.0) (lines-each P text line elements wires each xs all.1)
