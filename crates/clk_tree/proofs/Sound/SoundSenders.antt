-- No two Senders of the plan of a text without a fault have the same number.
use Rattle.std.proofs.Common.{◌≡◌, ℕ, ◌+◌, ◌&&◌, true, false, not, List, [], ◌∷◌, length, Option, Some, None, option_map, refl, ap, subst, ◌∙◌, eq-eqb, rules}
use Rattle.std.specs.List.{AllByRecursion, list_any, cons_option}
use Rattle.std.proofs.lemmas.Bool.{or_parts, or_from, false≢true}
use Rattle.clk_packet.specs.declared.fault.Fault.TheVariants.{NameTwice, UnknownClass, BadArgument, UnknownName}
use Rattle.clk_packet.specs.Lists.{stands_in, are_distinct}
use Rattle.clk_syntax.specs.declared.node.Link.{Link}
use Rattle.clk_syntax.specs.Classes.{Class, sender}
use Rattle.clk_syntax.specs.Source.{Element, Wire}
use Rattle.clk_syntax.specs.Declarations.{first_after, fails_at, class_of, is_sender, is_bad_after, name_twice, unknown_class, bad_argument, unknown_name}
use Rattle.clk_syntax.specs.Faults.{naming_fault, nodes_fault, nodes_of, links_of, fault_of}
use Rattle.clk_syntax.proofs.Callers.Checks.{neither, fails-not}
use Rattle.clk_tree.specs.Plan.{Planned, all_known, planned_from, plan_of}
use Rattle.clk_tree.proofs.Sound.SoundNodes.{known_as}

-- the numbers of the Senders of a plan, in order of declaration
abbrev pub with_number : Class → List ℕ → List ℕ
with_number (sender n) numbers = n ∷ numbers
with_number class numbers = numbers

abbrev pub sender_numbers : List Planned → List ℕ
sender_numbers [] = []
sender_numbers (e ∷ more) = with_number e.class (sender_numbers more)

-- a number that no Sender before has
abbrev IsNew : List Element → ℕ → Type 0
IsNew earlier n = list_any (λ e. is_sender n (class_of e)) earlier ≡ false

-- numbers that differ from one another, and from those before
record AreNew (earlier : List Element) (numbers : List ℕ) : Type 0 where
  pub distinct : are_distinct numbers ≡ true
  pub new : AllByRecursion (IsNew earlier) numbers

unlike : (n : ℕ) (e : Element) (numbers : List ℕ) → AllByRecursion (λ m. is_sender m (Some (sender n)) ≡ false) numbers → stands_in n numbers ≡ false
unlike n e [] apart = refl
unlike n e (m ∷ numbers) apart = search (rules, or_from, false≢true, eq-eqb, (unlike n e numbers apart.1))

each-new : (e : Element) (earlier : List Element) (numbers : List ℕ) → AllByRecursion (IsNew (e ∷ earlier)) numbers → AllByRecursion (IsNew earlier) numbers
each-new e earlier [] new = tt
each-new e earlier (m ∷ numbers) new = ((or_parts (is_sender m (class_of e)) (list_any (λ x. is_sender m (class_of x)) earlier) new.0).1, each-new e earlier numbers new.1)

each-apart : (e : Element) (earlier : List Element) (numbers : List ℕ) → AllByRecursion (IsNew (e ∷ earlier)) numbers → AllByRecursion (λ m. is_sender m (class_of e) ≡ false) numbers
each-apart e earlier [] new = tt
each-apart e earlier (m ∷ numbers) new = ((or_parts (is_sender m (class_of e)) (list_any (λ x. is_sender m (class_of x)) earlier) new.0).0, each-apart e earlier numbers new.1)

distinct-after : (count : ℕ) (links : List Link) (earlier elements : List Element) (i : ℕ)
    → first_after (λ before (e : Element). fails_at (is_bad_after before (class_of e)) e.class.place) earlier elements ≡ None
    → AreNew earlier (sender_numbers (planned_from count links i (all_known elements)))
distinct-after count links earlier [] i none = record { distinct = refl; new = tt }
distinct-after count links earlier (e ∷ elements) i none =
    let parts = neither (fails_at (is_bad_after earlier (class_of e)) e.class.place) _ none in
    by_case (class_of e) refl (fails-not (is_bad_after earlier (class_of e)) e.class.place parts.0) (distinct-after count links (e ∷ earlier) elements i parts.1)
    (distinct-after count links (e ∷ earlier) elements (i + 1) parts.1)
  where
    kept : (numbers : List ℕ) → AreNew (e ∷ earlier) numbers → AreNew earlier numbers
    kept numbers h = record { distinct = h.distinct; new = each-new e earlier numbers h.new }

    more : (n : ℕ) (numbers : List ℕ) → class_of e ≡ Some (sender n) → IsNew earlier n → AreNew (e ∷ earlier) numbers → AreNew earlier (n ∷ numbers)
    more n numbers is new h =
        let apart : stands_in n numbers ≡ false = unlike n e numbers (subst (λ o. AllByRecursion (λ m. is_sender m o ≡ false) numbers) is (each-apart e earlier numbers h.new)) in
        record { distinct = ap (λ b. not b && are_distinct numbers) apart ∙ h.distinct; new = (new, each-new e earlier numbers h.new) }

    by_case : (o : Option Class) → class_of e ≡ o → is_bad_after earlier o ≡ false
        → AreNew (e ∷ earlier) (sender_numbers (planned_from count links i (all_known elements)))
        → AreNew (e ∷ earlier) (sender_numbers (planned_from count links (i + 1) (all_known elements)))
        → AreNew earlier (sender_numbers (planned_from count links i (cons_option (option_map (known_as e) o) (all_known elements))))
    by_case o is good here later = search (rules, neither, fails-not, each-new, unlike, each-apart, kept, more)

none-bad : (place : Option ℕ) → option_map BadArgument place ≡ None → place ≡ None
none-bad place e = search rules

pub senders-distinct : (elements : List Element) (wires : List Wire) → fault_of elements wires ≡ None → are_distinct (sender_numbers (plan_of elements wires)) ≡ true
senders-distinct elements wires none =
    let naming = neither (naming_fault elements wires) (nodes_fault (nodes_of elements) (links_of elements wires)) none in
    let twice = neither (option_map NameTwice (name_twice elements)) _ naming.0 in
    let unknown = neither (option_map UnknownClass (unknown_class elements)) _ twice.1 in
    let bad = neither (option_map BadArgument (bad_argument elements)) (option_map UnknownName (unknown_name elements wires)) unknown.1 in
    (distinct-after (length (all_known elements)) (links_of elements wires) [] elements 0 (none-bad (bad_argument elements) bad.0)).distinct
