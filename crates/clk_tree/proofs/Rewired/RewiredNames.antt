-- Elements that are declared again by the lines of their plan: their names and classes are the same, so nothing is wrong with them.
use Rattle.std.proofs.Common.{◌≡◌, ℕ, ◌+◌, zero, suc, Bool, true, false, cond, not, ◌||◌, List, [], ◌∷◌, length, map, slice_get, option_map, Option, Some, None, refl, sym, ap, ap₂, ◌∙◌, rules}
use Rattle.std.specs.Bool.{⊤}
use Rattle.std.specs.List.{AllByRecursion, cons_option}
use Rattle.std.specs.Str.{bytes_eq}
use Rattle.std.specs.Option.{option_or}
use Rattle.std.proofs.lemmas.Bool.{both_ways, or_left, or_right}
use Rattle.std.proofs.lemmas.Option.{same_Some}
use Rattle.std.proofs.lemmas.Slice.Eq.{bytes_eq-Decides}
use Rattle.clk_packet.specs.declared.fault.Fault.TheVariants.{NameTwice, UnknownClass, BadArgument}
use Rattle.clk_syntax.specs.declared.naming.class.Role.{Role}
use Rattle.clk_syntax.specs.declared.node.Link.{Link}
use Rattle.clk_syntax.specs.Classes.{Class, role_of}
use Rattle.clk_syntax.specs.Source.{Element, Wire}
use Rattle.clk_syntax.specs.Declarations.{first_after, fails_at, is_declared, name_twice, unknown_class, class_of, is_sender, is_bad_after, bad_argument}
use Rattle.clk_syntax.specs.Faults.{node, nodes_of, place_of, naming_fault, nodes_fault, links_of, fault_of}
use Rattle.clk_syntax.specs.inside.Naming.{bad_at}
use Rattle.clk_syntax.proofs.Callers.Elements.{among, unknown_in, unknown_class-in}
use Rattle.clk_syntax.proofs.Callers.Checks.{neither, fails-not}
use Rattle.clk_tree.specs.Plan.{Known, all_known, planned_from, plan_of}
use Rattle.clk_tree.proofs.Canonical.CanonicalSource.{bare_element, element_line, IsReadBack}
use Rattle.clk_tree.proofs.Rewired.SameWiring.{role_in, AreSameNodes}
use Rattle.clk_tree.proofs.Sound.SoundNodes.{known_as}
use Rattle.clk_tree.proofs.Sound.SoundPaths.{none-of}

-- an element that has a class
abbrev pub HasClass : Element → Type 0
HasClass e = (class : Class) × (class_of e ≡ Some class)

-- two elements of the same name and the same class
pub record IsSameElement (e f : Element) : Type 0 where
  pub name : f.name.letters ≡ e.name.letters
  pub class : Class
  pub before : class_of e ≡ Some class
  pub after : class_of f ≡ Some class

-- the same elements, one after another
abbrev pub AreSame : List Element → List Element → Type 0
AreSame [] [] = ⊤
AreSame [] (f ∷ fs) = ⊥
AreSame (e ∷ es) [] = ⊥
AreSame (e ∷ es) (f ∷ fs) = IsSameElement e f × AreSame es fs

-- where no argument is bad, each element has a class
all-classes : (earlier elements : List Element) → first_after bad_at earlier elements ≡ None → AllByRecursion HasClass elements
all-classes earlier [] none = tt
all-classes earlier (e ∷ more) none =
    let parts = neither (bad_at earlier e) (first_after bad_at (e ∷ earlier) more) none in
    (has (class_of e) refl (fails-not (is_bad_after earlier (class_of e)) e.class.place parts.0), all-classes (e ∷ earlier) more parts.1)
  where
    has : (o : Option Class) → class_of e ≡ o → is_bad_after earlier o ≡ false → HasClass e
    has o is good = search (rules, neither, fails-not)

-- the same elements from the lines of their plan
same-from : (count : ℕ) (links : List Link) (i : ℕ) (elements again : List Element) → AllByRecursion HasClass elements
    → AllByRecursion IsReadBack (planned_from count links i (all_known elements)) → map bare_element again ≡ map element_line (planned_from count links i (all_known elements)) → AreSame elements again
same-from count links i [] [] classes back lines = tt
same-from count links i [] (f ∷ fs) classes back lines = absurd (cc)
same-from count links i (e ∷ es) again classes back lines =
    by_class again (class_of e) classes.0.1 back lines (λ fs. same-from count links (i + 1) es fs classes.1)
  where
    by_class : (again : List Element) (o : Option Class) → o ≡ Some classes.0.0
        → AllByRecursion IsReadBack (planned_from count links i (cons_option (option_map (known_as e) o) (all_known es)))
        → map bare_element again ≡ map element_line (planned_from count links i (cons_option (option_map (known_as e) o) (all_known es)))
        → ((fs : List Element) → AllByRecursion IsReadBack (planned_from count links (i + 1) (all_known es)) → map bare_element fs ≡ map element_line (planned_from count links (i + 1) (all_known es))
        → AreSame es fs)
        → AreSame (e ∷ es) again
    by_class again o is back lines later = search rules

-- the same classes and names are known
pub same-known : (elements again : List Element) → AreSame elements again → all_known again ≡ all_known elements
same-known [] [] same = refl
same-known [] (f ∷ fs) same = absurd same
same-known (e ∷ es) [] same = absurd same
same-known (e ∷ es) (f ∷ fs) same = search (rules, (same-known es fs same.1))

abbrev role_known : Known → Role
role_known k = role_of k.class

known-roles : (elements : List Element) → map role_in (nodes_of elements) ≡ map role_known (all_known elements)
known-roles [] = refl
known-roles (e ∷ more) = by_class (class_of e) (known-roles more)
  where
    by_class : (o : Option Class) → map role_in (nodes_of more) ≡ map role_known (all_known more)
        → map role_in (cons_option (option_map (node e.name.place) o) (nodes_of more)) ≡ map role_known (cons_option (option_map (known_as e) o) (all_known more))
    by_class o later = search rules

pub same-nodes : (elements again : List Element) → AreSame elements again → AreSameNodes (nodes_of elements) (nodes_of again)
same-nodes elements again same = known-roles again ∙ ap (map role_known) (same-known elements again same) ∙ sym (known-roles elements)

-- a name is declared in both or in neither, and at the same place
pub same-declared : (name : List ℕ) (elements again : List Element) → AreSame elements again → is_declared name again ≡ is_declared name elements
same-declared name [] [] same = refl
same-declared name [] (f ∷ fs) same = absurd same
same-declared name (e ∷ es) [] same = absurd same
same-declared name (e ∷ es) (f ∷ fs) same = ap₂ (λ l b. bytes_eq l name || b) same.0.name (same-declared name es fs same.1)

same-sender : (n : ℕ) (elements again : List Element) → AreSame elements again → among n again ≡ among n elements
same-sender n [] [] same = refl
same-sender n [] (f ∷ fs) same = absurd same
same-sender n (e ∷ es) [] same = absurd same
same-sender n (e ∷ es) (f ∷ fs) same = ap₂ (λ o b. is_sender n o || b) (same.0.after ∙ sym same.0.before) (same-sender n es fs same.1)

-- where a name is declared that an earlier place declared
abbrev pub twice_at : List Element → Element → Option ℕ
twice_at earlier e = fails_at (is_declared e.name.letters earlier) e.name.place

abbrev pub NamesOnce : List Element → List Element → Type 0
NamesOnce earlier elements = first_after twice_at earlier elements ≡ None

-- what doesn't fail, before what doesn't
nothing : (b : Bool) (place : ℕ) (later : Option ℕ) → b ≡ false → later ≡ None → option_or (fails_at b place) later ≡ None
nothing b place later e none = ap (λ t. option_or (fails_at t place) later) e ∙ none

same-once : (before after elements again : List Element) → AreSame before after → AreSame elements again → NamesOnce before elements → NamesOnce after again
same-once before after [] [] known same once = refl
same-once before after [] (f ∷ fs) known same once = absurd same
same-once before after (e ∷ es) [] known same once = absurd same
same-once before after (e ∷ es) (f ∷ fs) known same once =
    let parts = neither (twice_at before e) (first_after twice_at (e ∷ before) es) once in
    nothing (is_declared f.name.letters after) f.name.place (first_after twice_at (f ∷ after) fs)
    (same-declared f.name.letters before after known ∙ ap (λ l. is_declared l before) same.0.name ∙ fails-not (is_declared e.name.letters before) e.name.place parts.0)
    (same-once (e ∷ before) (f ∷ after) es fs (same.0, known) same.1 parts.1)

same-bad : (before after : List Element) (o : Option Class) → AreSame before after → is_bad_after after o ≡ is_bad_after before o
same-bad before after o known = search (rules, same-sender)

same-arguments : (before after elements again : List Element) → AreSame before after → AreSame elements again → first_after bad_at before elements ≡ None → first_after bad_at after again ≡ None
same-arguments before after [] [] known same good = refl
same-arguments before after [] (f ∷ fs) known same good = absurd same
same-arguments before after (e ∷ es) [] known same good = absurd same
same-arguments before after (e ∷ es) (f ∷ fs) known same good =
    let parts = neither (bad_at before e) (first_after bad_at (e ∷ before) es) good in
    nothing (is_bad_after after (class_of f)) f.class.place (first_after bad_at (f ∷ after) fs)
    (same-bad before after (class_of f) known ∙ ap (is_bad_after before) (same.0.after ∙ sym same.0.before) ∙ fails-not (is_bad_after before (class_of e)) e.class.place parts.0)
    (same-arguments (e ∷ before) (f ∷ after) es fs (same.0, known) same.1 parts.1)

-- each class is there
same-classes : (elements again : List Element) → AreSame elements again → unknown_in again ≡ None
same-classes [] [] same = refl
same-classes [] (f ∷ fs) same = absurd same
same-classes (e ∷ es) [] same = absurd same
same-classes (e ∷ es) (f ∷ fs) same = search (rules, (same-classes es fs same.1))

-- Elements that are declared again, with nothing wrong.
pub record IsNamedAgain (elements again : List Element) : Type 0 where
  pub same : AreSame elements again
  pub once : name_twice again ≡ None
  pub classes : unknown_class again ≡ None
  pub arguments : bad_argument again ≡ None

pub named-again : (elements : List Element) (wires : List Wire) → fault_of elements wires ≡ None → (again : List Element) → AllByRecursion IsReadBack (plan_of elements wires)
    → map bare_element again ≡ map element_line (plan_of elements wires) → IsNamedAgain elements again
named-again elements wires none again back lines =
    let naming = (neither (naming_fault elements wires) (nodes_fault (nodes_of elements) (links_of elements wires)) none).0 in
    let names = neither (option_map NameTwice (name_twice elements)) _ naming in
    let classes = neither (option_map UnknownClass (unknown_class elements)) _ names.1 in
    let arguments = neither (option_map BadArgument (bad_argument elements)) _ classes.1 in
    let good = none-of BadArgument (bad_argument elements) arguments.0 in
    let same = same-from (length (all_known elements)) (links_of elements wires) 0 elements again (all-classes [] elements good) back lines in
    record {
      same = same;
      once = same-once [] [] elements again tt same (none-of NameTwice (name_twice elements) names.0);
      classes = unknown_class-in again ∙ same-classes elements again same;
      arguments = same-arguments [] [] elements again tt same good;
    }

-- no name that was declared is declared again
not-again : (name : List ℕ) (earlier elements : List Element) → NamesOnce earlier elements → is_declared name earlier ≡ true → is_declared name elements ≡ false
not-again name earlier [] once there = refl
not-again name earlier (e ∷ more) once there =
    let parts = neither (twice_at earlier e) (first_after twice_at (e ∷ earlier) more) once in
    by_test (bytes_eq e.name.letters name) refl (fails-not (is_declared e.name.letters earlier) e.name.place parts.0) (not-again name (e ∷ earlier) more parts.1)
  where
    by_test : (b : Bool) → bytes_eq e.name.letters name ≡ b → is_declared e.name.letters earlier ≡ false → ((b || is_declared name earlier) ≡ true → is_declared name more ≡ false)
        → (b || is_declared name more) ≡ false
    by_test b same free later = search (rules, neither, fails-not, both_ways, bytes_eq-Decides)

-- the element at a place is declared
pub declared-at : (elements : List Element) (s : ℕ) (e : Element) → slice_get elements s ≡ Some e → is_declared e.name.letters elements ≡ true
declared-at [] s e at = absurd (cc)
declared-at (x ∷ more) zero e at = search (rules, or_left, bytes_eq-Decides, same_Some, or_right)
declared-at (x ∷ more) (suc s) e at = or_right (bytes_eq x.name.letters e.name.letters) (is_declared e.name.letters more) (declared-at more s e at)

-- and its name stands for it
pub placed-at : (earlier elements : List Element) (s : ℕ) (e : Element) → NamesOnce earlier elements → slice_get elements s ≡ Some e → place_of elements e.name.letters ≡ s
placed-at earlier [] s e once at = absurd (cc)
placed-at earlier (x ∷ more) zero e once at = search (rules, bytes_eq-Decides, same_Some, neither, not-again, or_left, both_ways, declared-at)
placed-at earlier (x ∷ more) (suc s) e once at =
    let parts = neither (twice_at earlier x) (first_after twice_at (x ∷ earlier) more) once in
    by_test (bytes_eq x.name.letters e.name.letters) refl (placed-at (x ∷ earlier) more s e parts.1 at)
    (λ same. not-again e.name.letters (x ∷ earlier) more parts.1 (or_left (bytes_eq x.name.letters e.name.letters) (is_declared e.name.letters earlier) same))
  where
    by_test : (b : Bool) → bytes_eq x.name.letters e.name.letters ≡ b → place_of more e.name.letters ≡ s → (bytes_eq x.name.letters e.name.letters ≡ true → is_declared e.name.letters more ≡ false)
        → cond (not b) (1 + place_of more e.name.letters) 0 ≡ suc s
    by_test b is later apart = search (rules, bytes_eq-Decides, same_Some, neither, not-again, or_left, both_ways, declared-at)
