-- The connections that a plan has by the sources of its elements, and those that its canonical lines make.
use Rattle.std.proofs.Common.{◌≡◌, ℕ, ◌+◌, ◌==◌, ◌||◌, not, zero, suc, true, false, List, [], ◌∷◌, ◌++◌, map, Some, None, slice_get, inl, inr, refl, sym, ap, ap₂, subst, ◌∙◌, arith, zero-add, rules}
use Rattle.std.specs.Bool.{⊤}
use Rattle.std.specs.Option.{option_or}
use Rattle.std.specs.List.{AllByRecursion, flat_map}
use Rattle.std.proofs.lemmas.List.{map-append}
use Rattle.std.proofs.lemmas.Option.{same_Some}
use Rattle.clk_packet.proofs.Callers.Lists.{all-append}
use Rattle.clk_syntax.specs.declared.node.Link.{Link}
use Rattle.clk_syntax.specs.Source.{Element, Word, Wire}
use Rattle.clk_syntax.specs.Classes.{Class, queue}
use Rattle.clk_syntax.specs.Declarations.{first_after, fails_at, is_declared, unknown_end, unknown_name}
use Rattle.clk_syntax.specs.Ports.{uses_output}
use Rattle.clk_syntax.specs.Faults.{place_of, links_of, port_kept}
use Rattle.clk_tree.specs.Plan.{Planned}
use Rattle.clk_tree.specs.PlanTree as tree
use Rattle.clk_tree.specs.Canonical.{name_of}
use Rattle.clk_tree.proofs.Canonical.CanonicalSource.{BareWire, bare_element, bare_wire, element_line, wire_line, input_lines, class_lines, wire_lines}
use Rattle.clk_tree.proofs.Distinct.DistinctPlans.{Once}
use Rattle.clk_tree.proofs.Rewired.SameWiring.{IsAlike, Occurs}
use Rattle.clk_tree.proofs.Sound.SoundChecks.{at-more}
use Rattle.clk_tree.proofs.Rewired.RewiredNames.{NamesOnce, declared-at, placed-at}

-- the connection to an input of the i-th element
abbrev pub source_link : ℕ → ℕ → ℕ → Link
source_link i input s = record { from = s; output = 0; input = input; to = i; from_place = 0; to_place = 0 }

abbrev pub input_links : ℕ → ℕ → List ℕ → List Link
input_links i input [] = []
input_links i input (s ∷ more) = source_link i input s ∷ input_links i (input + 1) more

abbrev pub class_links : ℕ → List ℕ → Class → List Link
class_links i sources (queue kind capacity) = map (source_link i 0) sources
class_links i sources class = input_links i 0 sources

-- the connections to the elements of a plan, from the i-th on
abbrev pub plan_links : ℕ → List Planned → List Link
plan_links i [] = []
plan_links i (e ∷ more) = class_links i e.sources e.class ++ plan_links (i + 1) more

-- what holds of those of a queue, and of those of any other element
pub class-links : (P : List Link → Type 0) (i : ℕ) (sources : List ℕ) (class : Class) → (tree.is_queue class ≡ true → P (map (source_link i 0) sources))
    → (tree.is_queue class ≡ false → P (input_links i 0 sources)) → P (class_links i sources class)
class-links P i sources class push pull = search rules

-- what holds of each element of a plan, and of its place
abbrev pub Each : (ℕ → Planned → Type 0) → ℕ → List Planned → Type 0
Each Q i [] = ⊤
Each Q i (e ∷ more) = Q i e × Each Q (i + 1) more

each-from : (Q : ℕ → Planned → Type 0) (i : ℕ) (plan : List Planned) → ((j : ℕ) (e : Planned) → slice_get plan j ≡ Some e → Q (i + j) e) → Each Q i plan
each-from Q i [] each = tt
each-from Q i (e ∷ more) each =
    let place : i + 0 ≡ i = omega arith in
    (subst (λ n. Q n e) place (each 0 e refl), each-from Q (i + 1) more (λ j p at. subst (λ n. Q n p) (sym (at-more i j)) (each (suc j) p at)))

pub each-element : (Q : ℕ → Planned → Type 0) (plan : List Planned) → ((j : ℕ) (e : Planned) → slice_get plan j ≡ Some e → Q j e) → Each Q 0 plan
each-element Q plan each = each-from Q 0 plan (λ j e at. subst (λ n. Q n e) (sym (zero-add j)) (each j e at))

pub plan-all : (P : Link → Type 0) (i : ℕ) (plan : List Planned) → Each (λ j e. AllByRecursion P (class_links j e.sources e.class)) i plan → AllByRecursion P (plan_links i plan)
plan-all P i [] each = tt
plan-all P i (e ∷ more) each = all-append P (class_links i e.sources e.class) (plan_links (i + 1) more) each.0 (plan-all P (i + 1) more each.1)

-- The canonical lines of a plan are those of its connections.
abbrev pub line_of : List Planned → Link → BareWire
line_of plan c = record { from = name_of (slice_get plan c.from); output = Some c.output; input = Some c.input; to = name_of (slice_get plan c.to) }

to-named : (plan : List Planned) (i input s : ℕ) (name : List ℕ) → name_of (slice_get plan i) ≡ name → wire_line plan s input name ≡ line_of plan (source_link i input s)
to-named plan i input s name is = ap (wire_line plan s input) (sym is)

input-lines : (plan : List Planned) (i : ℕ) (name : List ℕ) (input : ℕ) (sources : List ℕ) → name_of (slice_get plan i) ≡ name
    → input_lines plan name input sources ≡ map (line_of plan) (input_links i input sources)
input-lines plan i name input [] is = refl
input-lines plan i name input (s ∷ more) is = ap₂ (λ w ws. w ∷ ws) (to-named plan i input s name is) (input-lines plan i name (input + 1) more is)

sent-lines : (plan : List Planned) (i : ℕ) (name : List ℕ) (sources : List ℕ) → name_of (slice_get plan i) ≡ name
    → map (λ s. wire_line plan s 0 name) sources ≡ map (line_of plan) (map (source_link i 0) sources)
sent-lines plan i name [] is = refl
sent-lines plan i name (s ∷ more) is = ap₂ (λ w ws. w ∷ ws) (to-named plan i 0 s name is) (sent-lines plan i name more is)

class-lines : (plan : List Planned) (i : ℕ) (name : List ℕ) (sources : List ℕ) (class : Class) → name_of (slice_get plan i) ≡ name
    → class_lines plan name sources class ≡ map (line_of plan) (class_links i sources class)
class-lines plan i name sources class is = search (rules, sent-lines, input-lines)

lines-from : (plan : List Planned) (i : ℕ) (rest : List Planned) → Each (λ j e. name_of (slice_get plan j) ≡ e.name) i rest → flat_map (wire_lines plan) rest ≡ map (line_of plan) (plan_links i rest)
lines-from plan i [] each = refl
lines-from plan i (e ∷ more) each = search (rules, class-lines, map-append, (lines-from plan (i + 1) more each.1))

pub plan-lines : (plan : List Planned) → flat_map (wire_lines plan) plan ≡ map (line_of plan) (plan_links 0 plan)
plan-lines plan = lines-from plan 0 plan (each-element (λ j e. name_of (slice_get plan j) ≡ e.name) plan (λ j e at. ap name_of at))

-- The name of an element of a plan is that of the element that is declared again at its place.
record IsLineAt (again : List Element) (s : ℕ) (name : List ℕ) : Type 0 where
  element : Element
  at : slice_get again s ≡ Some element
  is : element.name.letters ≡ name

line-at : (again : List Element) (plan : List Planned) (s : ℕ) (e : Planned) → map bare_element again ≡ map element_line plan → slice_get plan s ≡ Some e → IsLineAt again s e.name
line-at again [] s e lines at = absurd (cc)
line-at [] (p ∷ plan) s e lines at = absurd (cc)
line-at (f ∷ again) (p ∷ plan) zero e lines at = search (rules, same_Some)
line-at (f ∷ again) (p ∷ plan) (suc s) e lines at =
    let rest : map bare_element again ≡ map element_line plan = cc in
    let h = line-at again plan s e rest at in
    record { element = h.element; at = h.at; is = h.is }

-- a name that stands for this place
pub record StandsFor (again : List Element) (name : List ℕ) (s : ℕ) : Type 0 where
  pub declared : is_declared name again ≡ true
  pub place : place_of again name ≡ s

-- a place where a plan has an element
abbrev pub HasElement : List Planned → ℕ → Type 0
HasElement plan s = (e : Planned) × (slice_get plan s ≡ Some e)

stands-for : (again : List Element) (plan : List Planned) (s : ℕ) → map bare_element again ≡ map element_line plan → NamesOnce [] again → HasElement plan s
    → StandsFor again (name_of (slice_get plan s)) s
stands-for again plan s lines once e =
    let h = line-at again plan s e.0 lines e.1 in
    let name : h.element.name.letters ≡ name_of (slice_get plan s) = h.is ∙ ap name_of (sym e.1) in
    record {
      declared = subst (λ n. is_declared n again ≡ true) name (declared-at again s h.element h.at);
      place = subst (λ n. place_of again n ≡ s) name (placed-at [] again s h.element once h.at);
    }

-- the same connections, one after another
abbrev pub AreAlike : List Link → List Link → Type 0
AreAlike [] [] = ⊤
AreAlike [] (d ∷ ds) = ⊥
AreAlike (c ∷ cs) [] = ⊥
AreAlike (c ∷ cs) (d ∷ ds) = IsAlike c d × AreAlike cs ds

-- both ends of a connection are elements of a plan
abbrev pub HasEnds : List Planned → Link → Type 0
HasEnds plan c = HasElement plan c.from × HasElement plan c.to

-- What wires are that are written as these connections: their names are declared, and they connect the same.
pub record IsJoined (again : List Element) (joined : List Wire) (links : List Link) : Type 0 where
  pub known : AllByRecursion (λ (w : Wire). (unknown_end again w.from ≡ None) × (unknown_end again w.to ≡ None)) joined
  pub alike : AreAlike (links_of again joined) links

known-end : (again : List Element) (word : Word) (name : List ℕ) (s : ℕ) → word.letters ≡ name → StandsFor again name s → unknown_end again word ≡ None
known-end again word name s is for = ap (λ b. fails_at (not b) word.place) (ap (λ l. is_declared l again) is ∙ for.declared)

pub joined-links : (again : List Element) (plan : List Planned) (joined : List Wire) (links : List Link) → map bare_element again ≡ map element_line plan → NamesOnce [] again
    → AllByRecursion (HasEnds plan) links → map bare_wire joined ≡ map (line_of plan) links → IsJoined again joined links
joined-links again plan [] [] lines once ends same = record { known = tt; alike = tt }
joined-links again plan [] (c ∷ links) lines once ends same = absurd (cc)
joined-links again plan (w ∷ joined) [] lines once ends same = absurd (cc)
joined-links again plan (w ∷ joined) (c ∷ links) lines once ends same =
    let one : bare_wire w ≡ line_of plan c = cc in
    let rest : map bare_wire joined ≡ map (line_of plan) links = cc in
    let h = joined-links again plan joined links lines once ends.1 rest in
    let from = stands-for again plan c.from lines once ends.0.0 in
    let to = stands-for again plan c.to lines once ends.0.1 in
    let from_is = ap (λ (b : BareWire). b.from) one in
    let to_is = ap (λ (b : BareWire). b.to) one in
    record {
      known = ((known-end again w.from (name_of (slice_get plan c.from)) c.from from_is from, known-end again w.to (name_of (slice_get plan c.to)) c.to to_is to), h.known);
      alike = (
        record {
          from = ap (place_of again) from_is ∙ from.place;
          output = ap (λ (b : BareWire). port_kept b.output) one;
          input = ap (λ (b : BareWire). port_kept b.input) one;
          to = ap (place_of again) to_is ∙ to.place;
        },
        h.alike,
      );
    }

-- no name is unknown
known-after : (again : List Element) (earlier joined : List Wire) → AllByRecursion (λ (w : Wire). (unknown_end again w.from ≡ None) × (unknown_end again w.to ≡ None)) joined
    → first_after (λ before (w : Wire). option_or (unknown_end again w.from) (unknown_end again w.to)) earlier joined ≡ None
known-after again earlier [] known = refl
known-after again earlier (w ∷ joined) known = search (rules, (known-after again (w ∷ earlier) joined known.1))

pub none-unknown : (again : List Element) (joined : List Wire) (links : List Link) → IsJoined again joined links → unknown_name again joined ≡ None
none-unknown again joined links h = known-after again [] joined h.known

-- connections that are alike: what they are among, what is among them, and which outputs they use
pub alike-back : (c d : Link) → IsAlike c d → IsAlike d c
alike-back c d a = record { from = sym a.from; output = sym a.output; input = sym a.input; to = sym a.to }

pub alike-on : (c d e : Link) → IsAlike c d → IsAlike d e → IsAlike c e
alike-on c d e a b = record { from = a.from ∙ b.from; output = a.output ∙ b.output; input = a.input ∙ b.input; to = a.to ∙ b.to }

occurs-alike : (c d : Link) (links : List Link) → IsAlike c d → Occurs d links → Occurs c links
occurs-alike c d [] a among = absurd among
occurs-alike c d (e ∷ links) a (inl here) = inl (alike-on c d e a here)
occurs-alike c d (e ∷ links) a (inr later) = inr (occurs-alike c d links a later)

pub alike-came : (others links old : List Link) → AreAlike others links → AllByRecursion (λ c. Occurs c old) links → AllByRecursion (λ d. Occurs d old) others
alike-came [] [] old alike came = tt
alike-came [] (c ∷ links) old alike came = absurd alike
alike-came (d ∷ others) [] old alike came = absurd alike
alike-came (d ∷ others) (c ∷ links) old alike came = (occurs-alike d c old alike.0 came.0, alike-came others links old alike.1 came.1)

pub alike-occurs : (c : Link) (others links : List Link) → AreAlike others links → Occurs c links → Occurs c others
alike-occurs c [] [] alike among = absurd among
alike-occurs c [] (e ∷ links) alike among = absurd alike
alike-occurs c (d ∷ others) [] alike among = absurd among
alike-occurs c (d ∷ others) (e ∷ links) alike (inl here) = inl (alike-on c e d here (alike-back d e alike.0))
alike-occurs c (d ∷ others) (e ∷ links) alike (inr later) = inr (alike-occurs c others links alike.1 later)

alike-uses : (s : ℕ) (others links : List Link) → AreAlike others links → uses_output s others ≡ uses_output s links
alike-uses s [] [] alike = refl
alike-uses s [] (c ∷ links) alike = absurd alike
alike-uses s (d ∷ others) [] alike = absurd alike
alike-uses s (d ∷ others) (c ∷ links) alike = ap₂ (λ f b. (f == s) || b) alike.0.from (alike-uses s others links alike.1)

pub alike-once : (others links : List Link) → AreAlike others links → Once links → Once others
alike-once [] [] alike once = tt
alike-once [] (c ∷ links) alike once = absurd alike
alike-once (d ∷ others) [] alike once = absurd alike
alike-once (d ∷ others) (c ∷ links) alike once = search (rules, alike-uses, (alike-once others links alike.1 once.1))
