-- Arguments that fit their classes or not, declaration by declaration.
use Rattle.std.proofs.Common.{◌≡◌, ℕ, ◌<◌, ◌==◌, ◌&&◌, ◌||◌, not, nat_le, Bool, true, false, List, [], ◌∷◌, ◌++◌, map, length, Option, Some, None, refl, sym, ap, ◌∙◌, append_assoc, length-append, arith, rules}
use Rattle.std.specs.List.{list_any}
use Rattle.std.proofs.lemmas.Bool.Decides.{nat_tests}
use Rattle.std.proofs.lemmas.List.{map-append, length-map}
use Rattle.clk_syntax.specs.declared.naming.class.Class as declared
use Rattle.clk_syntax.specs.declared.naming.JudgedElements.{JudgedElements}
use Rattle.clk_syntax.specs.declared.texts.token.Token.{Token}
use Rattle.clk_syntax.specs.Classes.{Class, sender, class_named, class_view, role_of, is_class}
use Rattle.clk_syntax.specs.Source.{Declared, Element, letters, element, elements}
use Rattle.clk_syntax.specs.Declarations.{first_after, class_if, class_of, is_sender, is_bad_after, bad_argument, class_in}
use Rattle.clk_syntax.specs.Faults.{nodes_of}
use Rattle.clk_syntax.specs.inside.Numbers.{has_number}
use Rattle.clk_syntax.specs.inside.Naming.{node_at, may_stand, bad_at, Judges}

abbrev class_by : List ℕ → Token → List Token → Option Class
class_by text k arguments = class_if (map (letters text) arguments) (class_named (letters text k))

abbrev pub among : ℕ → List Element → Bool
among n earlier = list_any (λ e. is_sender n (class_of e)) earlier

-- the first of some names fails
first-fails : (text : List ℕ) (k : Token) (arguments names : List Token) (earlier more : List Element) → 0 < length names → is_bad_after earlier (class_by text k arguments) ≡ true
    → first_after bad_at earlier (map (element text k arguments) names ++ more) ≡ Some k.place
first-fails text k arguments [] earlier more some bad = absurd (omega arith)
first-fails text k arguments (name ∷ names) earlier more some bad = search rules

-- the first of some names doesn't
first-passes : (text : List ℕ) (k : Token) (arguments names : List Token) (name : Token) (earlier more : List Element) → is_bad_after earlier (class_by text k arguments) ≡ false
    → first_after bad_at earlier (map (element text k arguments) (name ∷ names) ++ more) ≡ first_after bad_at (element text k arguments name ∷ earlier) (map (element text k arguments) names ++ more)
first-passes text k arguments names name earlier more good = search rules

-- the names of a class are gone over, and all are well
record Passed (text : List ℕ) (k : Token) (arguments names : List Token) (class : Class) (earlier more : List Element) : Type 0 where
  later : List Element
  bad : first_after bad_at earlier (map (element text k arguments) names ++ more) ≡ first_after bad_at later more
  taken : (n : ℕ) → among n later ≡ (is_sender n (Some class) || among n earlier)

-- a class of which there may be any number of elements
record IsPlain (class : Class) : Type 0 where
  good : (earlier : List Element) → is_bad_after earlier (Some class) ≡ false
  other : (n : ℕ) → is_sender n (Some class) ≡ false

plain-passed : (text : List ℕ) (k : Token) (arguments names : List Token) (class : Class) (earlier more : List Element) → class_by text k arguments ≡ Some class → IsPlain class → Passed text k arguments names class earlier more
plain-passed text k arguments [] class earlier more e plain = record { later = earlier; bad = refl; taken = λ n. ap (λ b. b || among n earlier) (sym (plain.other n)) }
plain-passed text k arguments (name ∷ names) class earlier more e plain =
    let one = element text k arguments in
    let rest = plain-passed text k arguments names class (one name ∷ earlier) more e plain in
    record {
      later = rest.later;
      bad = first-passes text k arguments names name earlier more (ap (is_bad_after earlier) e ∙ plain.good earlier) ∙ rest.bad;
      taken = λ n. rest.taken n ∙ ap (λ b. is_sender n (Some class) || b) (ap (λ o. is_sender n o || among n earlier) e ∙ ap (λ b. b || among n earlier) (plain.other n));
    }

same-number : (n : ℕ) → (n == n) ≡ true
same-number n = grind (arith, nat_tests)

not-true : (b : Bool) → not b ≡ true → b ≡ false
not-true b e = search rules

sender-passed : (text : List ℕ) (k : Token) (arguments names : List Token) (n : ℕ) (earlier more : List Element) → class_by text k arguments ≡ Some (sender n) → 0 < length names
    → (nat_le (length names) 1 && not (among n earlier)) ≡ true → Passed text k arguments names (sender n) earlier more
sender-passed text k arguments [] n earlier more e some may = absurd (omega arith)
sender-passed text k arguments (name ∷ []) n earlier more e some may =
    record {
      later = element text k arguments name ∷ earlier;
      bad = first-passes text k arguments [] name earlier more (ap (is_bad_after earlier) e ∙ not-true (among n earlier) may);
      taken = λ m. ap (λ o. is_sender m o || among m earlier) e;
    }
sender-passed text k arguments (name ∷ second ∷ names) n earlier more e some may = search (rules, first-passes, not-true)

passed : (text : List ℕ) (k : Token) (arguments names : List Token) (class : Class) (earlier more : List Element) → class_by text k arguments ≡ Some class → 0 < length names
    → may_stand (λ n. among n earlier) class (length names) ≡ true → Passed text k arguments names class earlier more
passed text k arguments names class earlier more e some may = search (rules, sender-passed, plain-passed)

-- a Sender of two names, or of a number that an earlier one has
sender-fails : (text : List ℕ) (k : Token) (arguments names : List Token) (n : ℕ) (earlier more : List Element) → class_by text k arguments ≡ Some (sender n) → 0 < length names
    → (nat_le (length names) 1 && not (among n earlier)) ≡ false → first_after bad_at earlier (map (element text k arguments) names ++ more) ≡ Some k.place
sender-fails text k arguments [] n earlier more e some may = absurd (omega arith)
sender-fails text k arguments (name ∷ []) n earlier more e some may = search (rules, first-fails, first-passes, same-number)
sender-fails text k arguments (name ∷ second ∷ names) n earlier more e some may = search (rules, first-fails, first-passes, same-number)

fails : (text : List ℕ) (k : Token) (arguments names : List Token) (class : Class) (earlier more : List Element) → class_by text k arguments ≡ Some class → 0 < length names
    → may_stand (λ n. among n earlier) class (length names) ≡ false → first_after bad_at earlier (map (element text k arguments) names ++ more) ≡ Some k.place
fails text k arguments names class earlier more e some may = search (rules, sender-fails)

-- the nodes of names of a class
nodes-of-names : (text : List ℕ) (k : Token) (arguments names : List Token) (class : Class) (more : List Element) → class_by text k arguments ≡ Some class
    → nodes_of (map (element text k arguments) names ++ more) ≡ map (node_at (role_of class)) names ++ nodes_of more
nodes-of-names text k arguments [] class more e = refl
nodes-of-names text k arguments (name ∷ names) class more e = search (rules, (nodes-of-names text k arguments names class more e))

may_stand-same : (f g : ℕ → Bool) (class : Class) (l : ℕ) → ((n : ℕ) → f n ≡ g n) → may_stand f class l ≡ may_stand g class l
may_stand-same f g class l same = search rules

-- a declaration whose class isn't there, or doesn't take its arguments
pub Judges-missing : (text : List ℕ) (all left : List Declared) (d : Declared) (judged : JudgedElements) → class_in text d ≡ None → 0 < length d.names → Judges text all (d ∷ left) judged
    → bad_argument (elements text all) ≡ Some d.class.place
Judges-missing text all left d judged e some h = h.bad ∙ first-fails text d.class d.arguments d.names h.earlier (elements text left) some (ap (is_bad_after h.earlier) e)

-- and one of a Sender that may not stand
pub Judges-fails : (text : List ℕ) (all left : List Declared) (d : Declared) (judged : JudgedElements) (class : Class) → class_in text d ≡ Some class → 0 < length d.names
    → may_stand (has_number judged.senders) class (length d.names) ≡ false → Judges text all (d ∷ left) judged → bad_argument (elements text all) ≡ Some d.class.place
Judges-fails text all left d judged class e some may h =
    h.bad ∙ fails text d.class d.arguments d.names class h.earlier (elements text left) e some (may_stand-same (λ n. among n h.earlier) (has_number judged.senders) class (length d.names) (λ n. sym (h.taken n)) ∙ may)

-- one declaration more
pub Judges-more : (text : List ℕ) (all left : List Declared) (d : Declared) (old new : JudgedElements) (class : declared.Class) → class_in text d ≡ Some (class_view class) → 0 < length d.names
    → may_stand (has_number old.senders) (class_view class) (length d.names) ≡ true
    → ((n : ℕ) → has_number new.senders n ≡ (is_sender n (Some (class_view class)) || has_number old.senders n))
    → new.classes.items ≡ old.classes.items ++ class ∷ []
    → new.nodes.items ≡ old.nodes.items ++ map (node_at (role_of (class_view class))) d.names
    → Judges text all (d ∷ left) old → Judges text all left new
Judges-more text all left d old new class e some may added classes nodes h =
    record {
      earlier = p.later;
      bad = h.bad ∙ p.bad;
      taken = λ n. added n ∙ ap (λ b. is_sender n (Some (class_view class)) || b) (h.taken n) ∙ sym (p.taken n);
      classes = h.classes ∙ ap (λ o. map is_class old.classes.items ++ o ∷ map (class_in text) left) e ∙ sym (append_assoc (map is_class old.classes.items) (is_class class ∷ []) (map (class_in text) left))
          ∙ ap (λ cs. cs ++ map (class_in text) left) (sym (map-append is_class old.classes.items (class ∷ []))) ∙ ap (λ cs. map is_class cs ++ map (class_in text) left) (sym classes);
      nodes = h.nodes ∙ ap (λ ns. old.nodes.items ++ ns) (nodes-of-names text d.class d.arguments d.names (class_view class) (elements text left) e)
          ∙ sym (append_assoc old.nodes.items (map (node_at (role_of (class_view class))) d.names) (nodes_of (elements text left))) ∙ ap (λ ns. ns ++ nodes_of (elements text left)) (sym nodes);
      count =
          let before = h.count in
          let front = length-append (map (element text d.class d.arguments) d.names) (elements text left) in
          let names = length-map d.names (element text d.class d.arguments) in
          let added = ap length nodes in
          let parts = length-append old.nodes.items (map (node_at (role_of (class_view class))) d.names) in
          let places = length-map d.names (node_at (role_of (class_view class))) in
          omega arith;
    }
  where
    p : Passed text d.class d.arguments d.names (class_view class) h.earlier (elements text left)
    p = search (rules, append_assoc, map-append, nodes-of-names, length-append, length-map, passed, may_stand-same)
