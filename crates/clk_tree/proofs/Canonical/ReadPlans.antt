-- The elements of the plan of a text can be written as lines.
use Rattle.std.proofs.Common.{◌≡◌, ℕ, ◌+◌, ◌<◌, ◌≤◌, zero, suc, inl, inr, Bool, false, List, [], ◌∷◌, length, map, filter, Option, Some, None, slice_get, refl, sym, ap, subst, ◌∙◌, arith, rules}
use Rattle.std.specs.List.{AllByRecursion, range_with_len}
use Rattle.std.proofs.lemmas.Bool.{cases_Bool}
use Rattle.std.proofs.lemmas.List.FromFn.{length-range_with_len, length-map-range_with_len}
use Rattle.std.proofs.lemmas.Option.{slice_get_within, same_Some}
use Rattle.clk_packet.specs.declared.limits.TheConstants.{MAX_ELEMENTS}
use Rattle.clk_syntax.specs.declared.naming.class.ClassName.{ClassName}
use Rattle.clk_syntax.specs.declared.naming.class.Role.{Role}
use Rattle.clk_syntax.specs.declared.naming.class.Role.TheVariants as role
use Rattle.clk_syntax.specs.declared.node.Node.{Node}
use Rattle.clk_syntax.specs.declared.node.Link.{Link}
use Rattle.clk_syntax.specs.declared.limits.TheConstants.{MAX_PORT}
use Rattle.clk_packet.proofs.Callers.Schedulers.{most-small}
use Rattle.clk_packet.proofs.Callers.Lists.{all-both}
use Rattle.clk_syntax.specs.Classes.{Class, device, class_with, role_of}
use Rattle.clk_syntax.specs.Source.{Element, Wire}
use Rattle.clk_syntax.specs.Declarations.{class_if, class_of}
use Rattle.clk_syntax.specs.Ports.{role_at, is_queue, inputs_of}
use Rattle.clk_syntax.specs.Faults.{nodes_of, links_of, fault_of}
use Rattle.clk_tree.specs.Plan.{Planned, is_connected, source_at, sources_of, all_known, plan_of, Denotes}
use Rattle.clk_tree.specs.Canonical.{arguments_of}
use Rattle.clk_tree.proofs.Canonical.CanonicalSource.{IsWordText, IsNameText, CanBeWritten}
use Rattle.clk_tree.proofs.Distinct.DistinctPlans.{plan-few}
use Rattle.clk_tree.proofs.Canonical.NumberWords.{below-all, decimal-word, decimal-words}
use Rattle.clk_tree.proofs.Canonical.ReadBack.{all-planned}
use Rattle.clk_tree.proofs.Sound.SoundClasses.{HasLimits, class-limits}
use Rattle.clk_tree.proofs.Sound.SoundPaths.{AreSound, fed}
use Rattle.clk_tree.proofs.Sound.SoundPlans.{IsPlanOf, is-plan, sound-nodes, pull-sources, all-range}
use Rattle.clk_tree.proofs.Sound.SoundNodes.{node-at}
use Rattle.clk_tree.proofs.Sound.SoundQueues.{length-planned, queue-role}
use Rattle.clk_tree.proofs.Canonical.WordTokens.{IsSpelled, elements-spelled}

-- the word of a device is its argument
device-argument : (name : ClassName) (arguments : List (List ℕ)) (word : List ℕ) → class_with name arguments ≡ Some (device word) → arguments ≡ word ∷ []
device-argument name arguments word e = search rules

device-word : (arguments : List (List ℕ)) (name : Option ClassName) (word : List ℕ) → AllByRecursion IsWordText arguments → class_if arguments name ≡ Some (device word) → IsWordText word
device-word arguments None word all e = absurd (cc)
device-word arguments (Some name) word all e = let only = subst (AllByRecursion IsWordText) (device-argument name arguments word e) all in only.0

-- the arguments of a class are words
argument-words : (class : Class) → HasLimits class → ((word : List ℕ) → class ≡ device word → IsWordText word) → AllByRecursion IsWordText (arguments_of class)
argument-words class has from = search (rules, decimal-word, below-all, decimal-words, most-small)

-- the words of an element of a plan
pub record HasWords (e : Planned) : Type 0 where
  pub name : IsNameText e.name
  pub arguments : AllByRecursion IsWordText (arguments_of e.class)

element-words : (e : Element) (class : Class) (sources : List ℕ) → IsSpelled e → class_of e ≡ Some class → HasWords (record { name = e.name.letters; class = class; sources = sources })
element-words e class sources spelled is = search (rules, argument-words, class-limits, device-word)

plan-words : (elements : List Element) (wires : List Wire) → AllByRecursion IsSpelled elements → AllByRecursion HasWords (plan_of elements wires)
plan-words elements wires spelled = all-planned IsSpelled HasWords (length (all_known elements)) (links_of elements wires) 0 elements spelled element-words

-- the sources of an element of a plan of so many elements
pub record HasSources (count : ℕ) (e : Planned) : Type 0 where
  pub inputs : length e.sources ≤ MAX_PORT
  pub sources : AllByRecursion (λ s. s < count) e.sources

length-filter-le : (p : ℕ → Bool) (xs : List ℕ) → length (filter p xs) ≤ length xs
length-filter-le p [] = omega arith
length-filter-le p (x ∷ xs) = search (rules, (length-filter-le p xs))

below-filter : (p : ℕ → Bool) (a n end : ℕ) → a + n ≤ end → AllByRecursion (λ s. s < end) (filter p (range_with_len a n))
below-filter p a zero end within = tt
below-filter p a (suc n) end within = search (rules, (below-filter p (a + 1) n end (omega arith)))

-- what is connected to a queue
queue-sources : (plan : List Planned) (links : List Link) (i : ℕ) → length plan ≤ MAX_ELEMENTS
    → (e : Planned) → e.sources ≡ filter (is_connected links i) (range_with_len 0 (length plan)) → HasSources (length plan) e
queue-sources plan links i few e is = search (rules, length-filter-le, length-range_with_len, below-filter)

-- what is connected to any other element
input-sources : (plan : List Planned) (count : ℕ) (nodes : List Node) (links : List Link) (i : ℕ) (r : Role) → IsPlanOf plan count nodes links → AreSound nodes links → role_at nodes i ≡ Some r
    → is_queue (Some r) ≡ false → (e : Planned) → e.sources ≡ map (source_at links i) (range_with_len 0 (inputs_of i r links)) → HasSources (length plan) e
input-sources plan count nodes links i r of sound at pull e is = record {
  inputs = let few = (sound.small i r at).inputs in let all = length-map-range_with_len (source_at links i) 0 (inputs_of i r links) in
      subst (λ l. length l ≤ MAX_PORT) (sym is) (omega arith);
  sources = subst (AllByRecursion (λ s. s < length plan)) (sym is)
      (all-range (λ s. s < length plan) (source_at links i) 0 (inputs_of i r links)
      (λ p within. let h = fed nodes links i p r sound at pull (omega arith) in
      let there = of.at (source_at links i p) h.is h.at in
      slice_get_within plan (source_at links i p) there.element there.at));
}

element-sources : (elements : List Element) (wires : List Wire) → fault_of elements wires ≡ None → (i : ℕ) (e : Planned) → slice_get (plan_of elements wires) i ≡ Some e
    → HasSources (length (plan_of elements wires)) e
element-sources elements wires none i e at =
    let count = length (all_known elements) in
    let links = links_of elements wires in
    let plan = plan_of elements wires in
    let there = node-at count links elements 0 i e at in
    let of = is-plan elements wires in
    let h = of.at i (role_of e.class) there in
    let same : h.element ≡ e = same_Some h.element e (sym h.at ∙ at) in
    let sources : e.sources ≡ sources_of count links i (role_of e.class) = ap (λ (p : Planned). p.sources) (sym same) ∙ h.sources in
    let long : length plan ≡ count = length-planned count links 0 (all_known elements) in
    elim (cases_Bool (is_queue (Some (role_of e.class)))) [
      | inl push ↦ queue-sources plan links i (plan-few elements wires none) e
          (sources ∙ ap (sources_of count links i) (same_Some (role_of e.class) role.Queue (queue-role (Some (role_of e.class)) push))
          ∙ ap (λ n. filter (is_connected links i) (range_with_len 0 n)) (sym long))
      | inr pull ↦ input-sources plan count (nodes_of elements) links i (role_of e.class) of (sound-nodes elements wires none) there pull e
          (sources ∙ pull-sources count links i (role_of e.class) pull)
    ]

all-at : (P : Planned → Type 0) (plan : List Planned) → ((i : ℕ) (e : Planned) → slice_get plan i ≡ Some e → P e) → AllByRecursion P plan
all-at P [] each = tt
all-at P (e ∷ plan) each = (each 0 e refl, all-at P plan (λ i f at. each (suc i) f at))

written : (count : ℕ) (e : Planned) → HasWords e → HasSources count e → CanBeWritten count e
written count e words from = record { name = words.name; arguments = words.arguments; inputs = from.inputs; sources = from.sources }

elements-written : (elements : List Element) (wires : List Wire) → fault_of elements wires ≡ None → AllByRecursion IsSpelled elements
    → AllByRecursion (CanBeWritten (length (plan_of elements wires))) (plan_of elements wires)
elements-written elements wires none spelled =
    let plan = plan_of elements wires in
    all-both HasWords (HasSources (length plan)) (CanBeWritten (length plan)) plan (written (length plan))
    (plan-words elements wires spelled) (all-at (HasSources (length plan)) plan (element-sources elements wires none))

pub plan-written : (text : List ℕ) (plan : List Planned) → Denotes text plan → AllByRecursion (CanBeWritten (length plan)) plan
plan-written text plan denotes = search (rules, elements-written, elements-spelled)
