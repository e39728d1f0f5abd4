-- In the plan of a text without faults each source of a scheduler or a device leads to it, and none stands twice: each output is connected
-- once, and each input of theirs is. So no queue stands twice in the tree of such a plan, and the tree is smaller than the plan.
use Rattle.std.proofs.Common.{◌≡◌, ℕ, ◌≤◌, ◌<◌, ◌+◌, ◌==◌, ◌&&◌, ◌||◌, zero, suc, Bool, true, false, not, if◌then◌else◌, List, [], ◌∷◌, length, map, take, get_or, Option, Some, None, slice_get, inl, inr, refl, sym, ap, subst, ◌∙◌, arith, eq-eqb, eqb-true, zero-add, rules}
use Rattle.std.specs.Bool.{⊤}
use Rattle.std.specs.Option.{option_map}
use Rattle.std.specs.List.{AllByRecursion, range_with_len, cons_option}
use Rattle.std.proofs.lemmas.Bool.{cases_eq, and_parts, not-false, false≢true, both_ways}
use Rattle.std.proofs.lemmas.Option.{same_Some}
use Rattle.clk_packet.specs.declared.fault.Fault.TheVariants.{BadPort, PortTwice, PortMissing}
use Rattle.clk_packet.specs.declared.limits.TheConstants.{MAX_ELEMENTS}
use Rattle.clk_sched.specs.Session as session
use Rattle.clk_packet.specs.Lists.{are_distinct, In}
use Rattle.clk_sched.specs.Tree.{Tree, root, leaves_distinct}
use Rattle.clk_syntax.specs.declared.naming.class.Role.{Role}
use Rattle.clk_syntax.specs.declared.node.Node.{Node}
use Rattle.clk_syntax.specs.declared.node.Link.{Link}
use Rattle.clk_syntax.specs.Classes.{Class, role_of}
use Rattle.clk_syntax.specs.Source.{Element, Wire}
use Rattle.clk_syntax.specs.Declarations.{first_after, fails_at, class_of}
use Rattle.clk_syntax.specs.Ports as ports
use Rattle.clk_syntax.specs.Ports.{role_at, uses_output, uses_input, all_connected, inputs_of, output_connected, bad_port, port_twice, port_missing, port_missing_from, next}
use Rattle.clk_syntax.specs.Faults as faults
use Rattle.clk_syntax.specs.Faults.{nodes_of, links_of, naming_fault, port_fault, shape_fault, nodes_fault, fault_of}
use Rattle.clk_syntax.specs.Reading.{elements_of, wires_of}
use Rattle.clk_syntax.proofs.Callers.Graphs.{used_again}
use Rattle.clk_syntax.proofs.Callers.Checks.{neither, fails-not}
use Rattle.clk_tree.specs.Plan.{Planned, Known, all_known, source_at, sources_of, planned_at, planned_from, plan_of, Denotes}
use Rattle.clk_tree.specs.PlanTree.{is_queue, is_device, device_sources, device_count, IsRowOf, IsTreeOf}
use Rattle.clk_tree.proofs.Distinct.DistinctNumbers.{Distinct, distinct-test}
use Rattle.clk_tree.proofs.Distinct.DistinctTrees.{HasParents, tree-distinct, tree-fits}

-- what is told of nothing
map-none : {A B : Type 0} (f : A → B) (a : Option A) → option_map f a ≡ None → a ≡ None
map-none f a e = search rules

-- each output is connected once
abbrev pub Once : List Link → Type 0
Once [] = ⊤
Once (c ∷ more) = (uses_output c.from more ≡ false) × Once more

no-more : (nodes : List Node) (j : ℕ) (earlier links : List Link) → first_after (used_again nodes) earlier links ≡ None → uses_output j earlier ≡ true → uses_output j links ≡ false
no-more nodes j earlier [] e used = refl
no-more nodes j earlier (c ∷ more) e used =
    let parts = neither (used_again nodes earlier c) (first_after (used_again nodes) (c ∷ earlier) more) e in
    by_test (c.from == j) refl (fails-not (uses_output c.from earlier) c.from_place (neither _ _ parts.0).0) (no-more nodes j (c ∷ earlier) more parts.1)
  where
    by_test : (b : Bool) → (c.from == j) ≡ b → uses_output c.from earlier ≡ false → ((b || uses_output j earlier) ≡ true → uses_output j more ≡ false) → (b || uses_output j more) ≡ false
    by_test b same free later = search (rules, neither, fails-not, both_ways, eqb-true)

once-after : (nodes : List Node) (earlier links : List Link) → first_after (used_again nodes) earlier links ≡ None → Once links
once-after nodes earlier [] e = tt
once-after nodes earlier (c ∷ more) e =
    let parts = neither (used_again nodes earlier c) (first_after (used_again nodes) (c ∷ earlier) more) e in
    (no-more nodes c.from (c ∷ earlier) more parts.1 (ap (λ b. b || uses_output c.from earlier) (eq-eqb c.from c.from refl)), once-after nodes (c ∷ earlier) more parts.1)

-- the input to which an element is connected
abbrev entry : List Link → ℕ → ℕ
entry [] s = 0
entry (c ∷ more) s = if c.from == s then c.input else entry more s

-- The output of an element is connected to an input of another.
record IsConnected (links : List Link) (i input s : ℕ) : Type 0 where
  goes : next links s ≡ i
  enters : entry links s ≡ input
  used : uses_output s links ≡ true

connected : (links : List Link) (i input : ℕ) → Once links → uses_input i input links ≡ true → IsConnected links i input (source_at links i input)
connected [] i input once used = absurd (false≢true used)
connected (c ∷ more) i input once used = search (rules, false≢true, (connected more i))

-- the elements at the inputs of another
inputs-connected : (i n j : ℕ) (links : List Link) → all_connected i n links ≡ true → j < n → uses_input i j links ≡ true
inputs-connected i zero j links all l = absurd (omega arith)
inputs-connected i (suc n) j links all l =
    let parts = and_parts (uses_input i n links) (all_connected i n links) all in
    elim (cases_eq j n) [
      | inl e ↦ subst (λ k. uses_input i k links ≡ true) (sym e) parts.0
      | inr other ↦ inputs-connected i n j links parts.1 (omega arith)
    ]

range-all : (P : ℕ → Type 0) (f : ℕ → ℕ) (a n : ℕ) → ((j : ℕ) → a ≤ j → j < a + n → P (f j)) → AllByRecursion P (map f (range_with_len a n))
range-all P f a zero each = tt
range-all P f a (suc n) each = (each a (omega arith) (omega arith), range-all P f (a + 1) n (λ j low high. each j (omega arith) (omega arith)))

record IsAmong (f : ℕ → ℕ) (a n y : ℕ) : Type 0 where
  from : ℕ
  low : a ≤ from
  high : from < a + n
  is : f from ≡ y

range-in : (f : ℕ → ℕ) (a n y : ℕ) → In y (map f (range_with_len a n)) → IsAmong f a n y
range-in f a zero y m = absurd m
range-in f a (suc n) y (inl e) = record { from = a; low = omega arith; high = omega arith; is = e }
range-in f a (suc n) y (inr m) = search (rules, (range-in f (a + 1) n y m))

range-distinct : (f : ℕ → ℕ) (a n : ℕ) → ((j k : ℕ) → a ≤ j → j < a + n → a ≤ k → k < a + n → f j ≡ f k → j ≡ k) → Distinct (map f (range_with_len a n))
range-distinct f a zero one = tt
range-distinct f a (suc n) one = (
  λ m. let r = range-in f (a + 1) n (f a) m in
      let low = r.low in
      let high = r.high in
      let same = one r.from a (omega arith) (omega arith) (omega arith) (omega arith) r.is in
      omega arith,
  range-distinct f (a + 1) n (λ j k jl jh kl kh e. one j k (omega arith) (omega arith) (omega arith) (omega arith) e),
)

module _ (links : List Link) (i n : ℕ) (once : Once links) (all : all_connected i n links ≡ true) where
  at-input : (j : ℕ) → j < 0 + n → IsConnected links i j (source_at links i j)
  at-input j l = connected links i j once (inputs-connected i n j links all (omega arith))

  sources-lead : AllByRecursion (λ s. next links s ≡ i) (map (source_at links i) (range_with_len 0 n))
  sources-lead = range-all (λ s. next links s ≡ i) (source_at links i) 0 n (λ j low high. (at-input j high).goes)

  sources-distinct : are_distinct (map (source_at links i) (range_with_len 0 n)) ≡ true
  sources-distinct = distinct-test (map (source_at links i) (range_with_len 0 n))
      (range-distinct (source_at links i) 0 n (λ j k jl jh kl kh e. sym (at-input j jh).enters ∙ ap (entry links) e ∙ (at-input k kh).enters))

-- an element of a plan, as the checks of ports see it
role-known : (elements : List Element) (i : ℕ) → role_at (nodes_of elements) i ≡ option_map (λ (k : Known). role_of k.class) (slice_get (all_known elements) i)
role-known [] i = refl
role-known (e ∷ more) i = by_class (class_of e) i (role-known more)
  where
    by_class : (o : Option Class) (i : ℕ) → ((j : ℕ) → role_at (nodes_of more) j ≡ option_map (λ (k : Known). role_of k.class) (slice_get (all_known more) j))
        → role_at (cons_option (option_map (faults.node e.name.place) o) (nodes_of more)) i
        ≡ option_map (λ (k : Known). role_of k.class) (slice_get (cons_option (option_map (λ c. record { name = e.name.letters; class = c }) o) (all_known more)) i)
    by_class o i later = search rules

record IsPlanned (count : ℕ) (links : List Link) (ks : List Known) (i j : ℕ) (e : Planned) : Type 0 where
  known : Known
  at : slice_get ks i ≡ Some known
  is : e ≡ planned_at count links j known

planned-here : (count : ℕ) (links : List Link) (b : ℕ) (ks : List Known) (i : ℕ) (e : Planned) → slice_get (planned_from count links b ks) i ≡ Some e → IsPlanned count links ks i (b + i) e
planned-here count links b [] i e at = absurd (cc)
planned-here count links b (k ∷ more) zero e at = record {
  known = k;
  at = refl;
  is = sym (same_Some (planned_at count links b k) e at) ∙ ap (λ n. planned_at count links n k) (omega arith);
}
planned-here count links b (k ∷ more) (suc i) e at = search (rules, same_Some, (planned-here count links (b + 1) more i e at))

-- its sources, where it is no queue
role-other : (c : Class) → is_queue c ≡ false → ports.is_queue (Some (role_of c)) ≡ false
role-other c e = search (rules, false≢true)

sources-mapped : (count : ℕ) (links : List Link) (i : ℕ) (r : Role) → ports.is_queue (Some r) ≡ false → sources_of count links i r ≡ map (source_at links i) (range_with_len 0 (inputs_of i r links))
sources-mapped count links i r e = search (rules, false≢true)

-- each input of it is connected
none-missing : (nodes : List Node) (links : List Link) (b i : ℕ) (r : Role) → port_missing_from b nodes links ≡ None → role_at nodes i ≡ Some r → all_connected (b + i) (inputs_of (b + i) r links) links ≡ true
none-missing [] links b i r none at = absurd (cc)
none-missing (n ∷ more) links b zero r none at = search (rules, neither, and_parts, not-false, fails-not, same_Some)
none-missing (n ∷ more) links b (suc i) r none at =
    let parts = neither (fails_at (not (output_connected b n.role links && all_connected b (inputs_of b n.role links) links)) n.place) (port_missing_from (b + 1) more links) none in
    let later = none-missing more links (b + 1) i r parts.1 at in
    let there : b + 1 + i ≡ b + suc i = omega arith in
    subst (λ k. all_connected k (inputs_of k r links) links ≡ true) there later

-- What is known of elements and connections without faults.
pub record AreSound (elements : List Element) (links : List Link) : Type 0 where
  pub once : Once links
  pub connected : port_missing (nodes_of elements) links ≡ None

pub sound-links : (elements : List Element) (wires : List Wire) → fault_of elements wires ≡ None → AreSound elements (links_of elements wires)
sound-links elements wires none =
    let ports = (neither (port_fault nodes links) (shape_fault nodes links) (neither (naming_fault elements wires) (nodes_fault nodes links) none).1).0 in
    let later = (neither (option_map BadPort (bad_port nodes links)) _ ports).1 in
    let twice = neither (option_map PortTwice (port_twice nodes links)) _ later in
    record {
      once = once-after nodes [] links (map-none PortTwice (port_twice nodes links) twice.0);
      connected = map-none PortMissing (port_missing nodes links) (neither (option_map PortMissing (port_missing nodes links)) _ twice.1).0;
    }
  where
    nodes : List Node
    nodes = nodes_of elements

    links : List Link
    links = links_of elements wires

-- The device of a number: it stands at this place, and as many devices are declared before it.
pub record IsDeviceAt (plan : List Planned) (d : ℕ) : Type 0 where
  pub place : ℕ
  pub element : Planned
  pub at : slice_get plan place ≡ Some element
  pub is : is_device element.class ≡ true
  pub sources : get_or (device_sources plan) d [] ≡ element.sources
  pub before : device_count (take place plan) ≡ d

abbrev with_device : Bool → List ℕ → List (List ℕ) → List (List ℕ)
with_device b sources more = if b then sources ∷ more else more

device-here : (p : Planned) (more : List Planned) → is_device p.class ≡ true → IsDeviceAt (p ∷ more) 0
device-here p more is = search rules

device-after : (p : Planned) (more : List Planned) (d : ℕ) → is_device p.class ≡ true → IsDeviceAt more d → IsDeviceAt (p ∷ more) (suc d)
device-after p more d is h = record {
  place = suc h.place;
  element = h.element;
  at = h.at;
  is = h.is;
  sources = ap (λ b. get_or (with_device b p.sources (device_sources more)) (suc d) []) is ∙ h.sources;
  before = ap (λ b. length (with_device b p.sources (device_sources (take h.place more)))) is ∙ ap suc h.before;
}

device-past : (p : Planned) (more : List Planned) (d : ℕ) → is_device p.class ≡ false → IsDeviceAt more d → IsDeviceAt (p ∷ more) d
device-past p more d is h = record {
  place = suc h.place;
  element = h.element;
  at = h.at;
  is = h.is;
  sources = ap (λ b. get_or (with_device b p.sources (device_sources more)) d []) is ∙ h.sources;
  before = ap (λ b. length (with_device b p.sources (device_sources (take h.place more)))) is ∙ h.before;
}

pub device-at : (plan : List Planned) (d : ℕ) → d < device_count plan → IsDeviceAt plan d
device-at [] d below = absurd (omega arith)
device-at (p ∷ more) d below = by_test (is_device p.class) refl d below (device-at more)
  where
    by_test : (b : Bool) → is_device p.class ≡ b → (d : ℕ) → d < length (with_device b p.sources (device_sources more)) → ((n : ℕ) → n < device_count more → IsDeviceAt more n) → IsDeviceAt (p ∷ more) d
    by_test true is zero below later = device-here p more is
    by_test true is (suc d) below later = device-after p more d is (later d (omega arith))
    by_test false is d below later = device-past p more d is (later d below)

module _ (elements : List Element) (wires : List Wire) (sound : AreSound elements (links_of elements wires)) where
  -- each source of a scheduler or a device leads to it, and none stands twice
  inputs-all : (i : ℕ) (k : Known) → slice_get (all_known elements) i ≡ Some k → all_connected i (inputs_of i (role_of k.class) (links_of elements wires)) (links_of elements wires) ≡ true
  inputs-all i k at =
      let here = none-missing (nodes_of elements) (links_of elements wires) 0 i (role_of k.class) sound.connected (role-known elements i ∙ ap (option_map (λ (k : Known). role_of k.class)) at) in
      subst (λ j. all_connected j (inputs_of j (role_of k.class) (links_of elements wires)) (links_of elements wires) ≡ true) (zero-add i) here

  known-lead : (i : ℕ) (k : Known) → slice_get (all_known elements) i ≡ Some k → is_queue k.class ≡ false
      → AllByRecursion (λ s. next (links_of elements wires) s ≡ i) (sources_of (length (all_known elements)) (links_of elements wires) i (role_of k.class))
  known-lead i k at other = search (rules, sources-mapped, role-other, sources-lead, inputs-all)

  known-once : (i : ℕ) (k : Known) → slice_get (all_known elements) i ≡ Some k → is_queue k.class ≡ false
      → are_distinct (sources_of (length (all_known elements)) (links_of elements wires) i (role_of k.class)) ≡ true
  known-once i k at other = search (rules, sources-mapped, role-other, sources-distinct, inputs-all)

  planned-at : (i : ℕ) (e : Planned) → slice_get (plan_of elements wires) i ≡ Some e → IsPlanned (length (all_known elements)) (links_of elements wires) (all_known elements) i i e
  planned-at i e at =
      subst (λ j. IsPlanned (length (all_known elements)) (links_of elements wires) (all_known elements) i j e) (zero-add i)
      (planned-here (length (all_known elements)) (links_of elements wires) 0 (all_known elements) i e at)

  plan-lead : (i : ℕ) (e : Planned) → slice_get (plan_of elements wires) i ≡ Some e → is_queue e.class ≡ false → AllByRecursion (λ s. next (links_of elements wires) s ≡ i) e.sources
  plan-lead i e at =
      let p = planned-at i e at in
      subst (λ (x : Planned). is_queue x.class ≡ false → AllByRecursion (λ s. next (links_of elements wires) s ≡ i) x.sources) (sym p.is) (known-lead i p.known p.at)

  plan-once : (i : ℕ) (e : Planned) → slice_get (plan_of elements wires) i ≡ Some e → is_queue e.class ≡ false → are_distinct e.sources ≡ true
  plan-once i e at =
      let p = planned-at i e at in
      subst (λ (x : Planned). is_queue x.class ≡ false → are_distinct x.sources ≡ true) (sym p.is) (known-once i p.known p.at)

  pub has-parents : HasParents (plan_of elements wires) (next (links_of elements wires))
  has-parents = record { leads = plan-lead; once = plan-once }

-- no queue stands twice in a tree of what is declared and connected without faults
pub plan-distinct : (elements : List Element) (wires : List Wire) (d : ℕ) → fault_of elements wires ≡ None → d < device_count (plan_of elements wires) → (t : Tree) → IsTreeOf (plan_of elements wires) d t
    → leaves_distinct t ≡ true
plan-distinct elements wires d none below t is =
    let here = device-at (plan_of elements wires) d below in
    tree-distinct (plan_of elements wires) (next (links_of elements wires)) here.place here.element (has-parents elements wires (sound-links elements wires none)) here.at here.is t
    (subst (λ sources. IsRowOf (plan_of elements wires) sources (root t)) here.sources is)

pub plan-fits : (elements : List Element) (wires : List Wire) (d : ℕ) → fault_of elements wires ≡ None → d < device_count (plan_of elements wires) → (t : Tree) → IsTreeOf (plan_of elements wires) d t
    → 1 + session.elements (root t) ≤ length (plan_of elements wires)
plan-fits elements wires d none below t is =
    let here = device-at (plan_of elements wires) d below in
    tree-fits (plan_of elements wires) (next (links_of elements wires)) here.place here.element (has-parents elements wires (sound-links elements wires none)) here.at here.is t
    (subst (λ sources. IsRowOf (plan_of elements wires) sources (root t)) here.sources is)

-- and of what a text denotes
pub denoted-distinct : (text : List ℕ) (plan : List Planned) (d : ℕ) → Denotes text plan → d < device_count plan → (t : Tree) → IsTreeOf plan d t → leaves_distinct t ≡ true
denoted-distinct text plan d h below t is = search (rules, plan-distinct)

pub denoted-fits : (text : List ℕ) (plan : List Planned) (d : ℕ) → Denotes text plan → d < device_count plan → (t : Tree) → IsTreeOf plan d t → 1 + session.elements (root t) ≤ length plan
denoted-fits text plan d h below t is = search (rules, plan-fits)

-- which is no larger than a session may be
pub nodes-known : (elements : List Element) → length (nodes_of elements) ≡ length (all_known elements)
nodes-known [] = refl
nodes-known (e ∷ more) = search (rules, (nodes-known more))

planned-known : (count : ℕ) (links : List Link) (b : ℕ) (ks : List Known) → length (planned_from count links b ks) ≡ length ks
planned-known count links b [] = refl
planned-known count links b (k ∷ more) = ap suc (planned-known count links (b + 1) more)

pub plan-few : (elements : List Element) (wires : List Wire) → fault_of elements wires ≡ None → length (plan_of elements wires) ≤ MAX_ELEMENTS
plan-few elements wires none = search (rules, neither, planned-known, nodes-known)

pub denoted-small : (text : List ℕ) (plan : List Planned) → Denotes text plan → length plan ≤ MAX_ELEMENTS
denoted-small text plan h = subst (λ p. length p ≤ MAX_ELEMENTS) (sym h.is) (plan-few (elements_of text h.faultless.statements) (wires_of text h.faultless.statements) h.faultless.sound)

pub denoted-session : (text : List ℕ) (plan : List Planned) (d : ℕ) → Denotes text plan → d < device_count plan → (t : Tree) → IsTreeOf plan d t → 1 + session.elements (root t) ≤ MAX_ELEMENTS
denoted-session text plan d h below t is =
    let fits = denoted-fits text plan d h below t is in
    let few = denoted-small text plan h in
    omega (arith, fits, few)

-- A plan has no more devices than elements.
pub devices-few : (plan : List Planned) → device_count plan ≤ length plan
devices-few [] = omega arith
devices-few (p ∷ more) = search (rules, (devices-few more))
