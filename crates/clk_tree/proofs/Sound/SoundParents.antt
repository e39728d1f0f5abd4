-- In the plan of a text without a fault each source of an element that is no queue leads to it, and stands at one input of it.
use Rattle.std.proofs.Common.{◌≡◌, ℕ, ◌+◌, ◌<◌, ◌==◌, ◌&&◌, zero, suc, true, false, not, if◌then◌else◌, List, [], ◌∷◌, length, map, Some, None, slice_get, refl, sym, ap, subst, ◌∙◌, arith, eq-eqb, ne_eqb}
use Rattle.std.specs.List.{AllByRecursion, range_with_len}
use Rattle.std.proofs.lemmas.Bool.{or_parts, or_from}
use Rattle.std.proofs.lemmas.Option.{same_Some}
use Rattle.clk_packet.specs.Lists.{stands_in, are_distinct}
use Rattle.clk_packet.proofs.Callers.Lists.{all-both}
use Rattle.clk_syntax.specs.declared.naming.class.Role.{Role}
use Rattle.clk_syntax.specs.declared.node.Node.{Node}
use Rattle.clk_syntax.specs.declared.node.Link.{Link}
use Rattle.clk_syntax.specs.Source.{Element, Wire}
use Rattle.clk_syntax.specs.Classes.{role_of}
use Rattle.clk_syntax.specs.Declarations.{first_after}
use Rattle.clk_syntax.specs.Ports.{role_at, is_queue, uses_output, inputs_of, next}
use Rattle.clk_syntax.specs.Faults.{nodes_of, links_of, fault_of}
use Rattle.clk_syntax.proofs.Callers.Graphs.{used_again}
use Rattle.clk_syntax.proofs.Callers.Checks.{neither}
use Rattle.clk_tree.specs.Plan.{Planned, source_at, all_known, plan_of}
use Rattle.clk_tree.specs.PlanTree as tree
use Rattle.clk_tree.proofs.Sound.SoundChecks.{unused-after}
use Rattle.clk_tree.proofs.Sound.SoundNodes.{node-at, queue-class}
use Rattle.clk_tree.proofs.Sound.SoundPaths.{AreSound, fed, link-to, input-used}
use Rattle.clk_tree.proofs.Sound.SoundPlans.{is-plan, sound-nodes, pull-sources, all-range, inputs_at}

-- the input to which the output of an element leads
abbrev input_from : List Link → ℕ → ℕ
input_from [] s = 0
input_from (c ∷ more) s = if c.from == s then c.input else input_from more s

all-input : (nodes : List Node) (earlier links : List Link) → first_after (used_again nodes) earlier links ≡ None → AllByRecursion (λ (c : Link). input_from links c.from ≡ c.input) links
all-input nodes earlier [] e = tt
all-input nodes earlier (c ∷ links) e =
    let parts = neither (used_again nodes earlier c) (first_after (used_again nodes) (c ∷ earlier) links) e in (
      ap (λ b. if b then c.input else input_from links c.from) (eq-eqb c.from c.from refl),
      all-both (λ (d : Link). uses_output d.from (c ∷ earlier) ≡ false) (λ (d : Link). input_from links d.from ≡ d.input) (λ (d : Link). input_from (c ∷ links) d.from ≡ d.input) links
          (λ d free is. ap (λ b. if b then c.input else input_from links d.from) (or_parts (c.from == d.from) (uses_output d.from earlier) free).0 ∙ is)
          (unused-after nodes (c ∷ earlier) links parts.1) (all-input nodes (c ∷ earlier) links parts.1),
    )

fed-input : (nodes : List Node) (links : List Link) (i input : ℕ) (r : Role) → AreSound nodes links → role_at nodes i ≡ Some r → input < inputs_of i r links
    → input_from links (source_at links i input) ≡ input
fed-input nodes links i input r sound at within =
    let h = link-to (λ (c : Link). input_from links c.from ≡ c.input) links i input (all-input nodes [] links sound.once)
    (input-used i (inputs_of i r links) input links (sound.connected i r at).inputs within) in
    ap (input_from links) h.source ∙ h.has ∙ h.at_input

-- numbers of which another function gives back where they come from
apart : (f g : ℕ → ℕ) (j a n : ℕ) → j < a → g (f j) ≡ j → ((k : ℕ) → k < a + n → g (f k) ≡ k) → stands_in (f j) (map f (range_with_len a n)) ≡ false
apart f g j a zero below back all = refl
apart f g j a (suc n) below back all =
    let here : g (f a) ≡ a = all a (omega arith) in
    or_from (f a == f j) (stands_in (f j) (map f (range_with_len (a + 1) n)))
    (ne_eqb (f a) (f j) (λ same. let both : g (f a) ≡ g (f j) = ap g same in omega arith))
    (apart f g j (a + 1) n (omega arith) back (λ k under. all k (omega arith)))

map-distinct : (f g : ℕ → ℕ) (a n : ℕ) → ((k : ℕ) → k < a + n → g (f k) ≡ k) → are_distinct (map f (range_with_len a n)) ≡ true
map-distinct f g a zero all = refl
map-distinct f g a (suc n) all =
    let others : stands_in (f a) (map f (range_with_len (a + 1) n)) ≡ false = apart f g a (a + 1) n (omega arith) (all a (omega arith)) (λ k under. all k (omega arith)) in
    ap (λ b. not b && are_distinct (map f (range_with_len (a + 1) n))) others ∙ map-distinct f g (a + 1) n (λ k under. all k (omega arith))

-- the inputs of an element of a plan that is no queue
pub record HasInputs (nodes : List Node) (links : List Link) (i : ℕ) (e : Planned) : Type 0 where
  pub role : role_at nodes i ≡ Some (role_of e.class)
  pub pull : is_queue (Some (role_of e.class)) ≡ false
  pub sources : e.sources ≡ inputs_at links i (role_of e.class)

pub has-inputs : (elements : List Element) (wires : List Wire) (i : ℕ) (e : Planned) → slice_get (plan_of elements wires) i ≡ Some e → tree.is_queue e.class ≡ false
    → HasInputs (nodes_of elements) (links_of elements wires) i e
has-inputs elements wires i e at other =
    let count = length (all_known elements) in
    let links = links_of elements wires in
    let there = node-at count links elements 0 i e at in
    let plan = is-plan elements wires in
    let h = plan.at i (role_of e.class) there in
    let same : h.element ≡ e = same_Some h.element e (sym h.at ∙ at) in
    let pull : is_queue (Some (role_of e.class)) ≡ false = sym (queue-class e.class) ∙ other in
    record { role = there; pull = pull; sources = ap (λ (p : Planned). p.sources) (sym same) ∙ h.sources ∙ pull-sources count links i (role_of e.class) pull }

-- each source of an element that is no queue leads to it
pub sources-lead : (elements : List Element) (wires : List Wire) → fault_of elements wires ≡ None → (i : ℕ) (e : Planned) → slice_get (plan_of elements wires) i ≡ Some e → tree.is_queue e.class ≡ false
    → AllByRecursion (λ s. next (links_of elements wires) s ≡ i) e.sources
sources-lead elements wires none i e at other =
    let nodes = nodes_of elements in
    let links = links_of elements wires in
    let h = has-inputs elements wires i e at other in
    subst (AllByRecursion (λ s. next links s ≡ i)) (sym h.sources)
    (all-range (λ s. next links s ≡ i) (source_at links i) 0 (inputs_of i (role_of e.class) links)
    (λ p within. (fed nodes links i p (role_of e.class) (sound-nodes elements wires none) h.role h.pull (omega arith)).to))

-- no source stands twice among those of an element that is no queue
pub sources-distinct : (elements : List Element) (wires : List Wire) → fault_of elements wires ≡ None → (i : ℕ) (e : Planned) → slice_get (plan_of elements wires) i ≡ Some e → tree.is_queue e.class ≡ false
    → are_distinct e.sources ≡ true
sources-distinct elements wires none i e at other =
    let nodes = nodes_of elements in
    let links = links_of elements wires in
    let h = has-inputs elements wires i e at other in
    ap are_distinct h.sources
    ∙ map-distinct (source_at links i) (input_from links) 0 (inputs_of i (role_of e.class) links)
    (λ p within. fed-input nodes links i p (role_of e.class) (sound-nodes elements wires none) h.role (omega arith))
