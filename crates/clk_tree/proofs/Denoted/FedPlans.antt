-- In the plan of a text without faults each source of a scheduler or a device is connected to it alone, each queue and each scheduler is
-- connected to a scheduler or a device, and the path from a queue ends at a device.
use Rattle.std.proofs.Common.{◌≡◌, ℕ, ◌+◌, ◌<◌, ◌≤◌, ◌==◌, ◌&&◌, ◌||◌, zero, suc, true, false, not, if◌then◌else◌, List, [], ◌∷◌, length, map, Option, Some, None, slice_get, inl, inr, refl, sym, ap, subst, ◌∙◌, arith, eq-eqb, eqb-true, rules}
use Rattle.std.specs.List.{AllByRecursion, range_with_len}
use Rattle.std.proofs.lemmas.Bool.{and_from, and_parts, or_parts, or_right, ltb-true, cases_eq, cases_Bool, false≢true}
use Rattle.std.proofs.lemmas.Option.{same_Some}
use Rattle.clk_packet.specs.Lists.{stands_in, In}
use Rattle.clk_packet.proofs.Callers.Lists.{all-both}
use Rattle.clk_syntax.specs.declared.naming.class.Role.{Role}
use Rattle.clk_syntax.specs.declared.naming.class.Role.TheVariants as role
use Rattle.clk_syntax.specs.declared.node.Node.{Node}
use Rattle.clk_syntax.specs.declared.node.Link.{Link}
use Rattle.clk_syntax.specs.Classes.{role_of}
use Rattle.clk_syntax.specs.Source.{Element, Wire}
use Rattle.clk_syntax.specs.Declarations.{first_after, fails_at}
use Rattle.clk_syntax.specs.Ports as ports
use Rattle.clk_syntax.specs.Ports.{role_at, is_source, is_scheduler, has_input, uses_output, uses_input, inputs_used, inputs_of, output_connected, next, follow, leads}
use Rattle.clk_syntax.specs.Faults.{nodes_of, links_of, fault_of}
use Rattle.clk_syntax.specs.Reading.{elements_of, wires_of}
use Rattle.clk_syntax.proofs.Callers.Graphs.{used_again}
use Rattle.clk_syntax.proofs.Callers.Checks.{neither, fails-not}
use Rattle.clk_tree.specs.Plan.{Planned, source_at, all_known, plan_of, Denotes}
use Rattle.clk_tree.specs.PlanTree.{is_queue, is_device}
use Rattle.clk_tree.specs.PlanPaths.{has_output, place_fed, place_after}
use Rattle.clk_tree.proofs.Sound.SoundChecks.{IsRight}
use Rattle.clk_tree.proofs.Sound.SoundNodes.{node-at, queue-class, device-class}
use Rattle.clk_tree.proofs.Sound.SoundPaths.{AreSound}
use Rattle.clk_tree.proofs.Sound.SoundPlans.{IsPlanOf, is-plan, sound-nodes, pull-sources}
use Rattle.clk_tree.proofs.Sound.SoundQueues.{IsLinkFrom, link-from, queue-role, IsSenderAt, IsSentTo, queue-senders, sender-sent}
use Rattle.clk_tree.proofs.Sound.SoundParents.{sources-lead}
use Rattle.clk_tree.proofs.Distinct.DistinctNumbers.{in-all, all-of, in-stands, stands-in}
use Rattle.clk_tree.proofs.Denoted.DevicePaths.{is_device_at, HasPath, has-path, fed-is}

-- each source of an element that is no queue leads to it, and what is connected to a queue are Senders, each of which is connected to it
-- alone
pub record IsWired (plan : List Planned) (parent : ℕ → ℕ) : Type 0 where
  pub leads : (i : ℕ) (e : Planned) → slice_get plan i ≡ Some e → is_queue e.class ≡ false → AllByRecursion (λ s. parent s ≡ i) e.sources
  pub senders : (i : ℕ) (e : Planned) → slice_get plan i ≡ Some e → is_queue e.class ≡ true → AllByRecursion (IsSenderAt plan) e.sources
  pub sent : (s : ℕ) → IsSenderAt plan s → IsSentTo plan s

-- what stands among the sources of an element that is no queue is connected to it alone
module _ (plan : List Planned) (parent : ℕ → ℕ) (wired : IsWired plan parent) where
  no-sender : (s i : ℕ) (e : Planned) → slice_get plan i ≡ Some e → is_queue e.class ≡ false → stands_in s e.sources ≡ true → IsSenderAt plan s → ⊥
  no-sender s i e at other stands sender =
      let to = wired.sent s sender in
      let place : i ≡ to.place = to.alone i e at stands in
      let same : e ≡ to.element = same_Some e to.element (sym at ∙ ap (slice_get plan) place ∙ to.at) in
      false≢true (sym other ∙ ap (λ (p : Planned). is_queue p.class) same ∙ to.is)

  alone : (s i : ℕ) (e : Planned) → slice_get plan i ≡ Some e → is_queue e.class ≡ false → stands_in s e.sources ≡ true
      → (j : ℕ) (x : Planned) → slice_get plan j ≡ Some x → stands_in s x.sources ≡ true → j ≡ i
  alone s i e at other stands j x there among = elim (cases_Bool (is_queue x.class)) [
    | inl queue ↦ absurd (no-sender s i e at other stands (in-all (IsSenderAt plan) s x.sources (wired.senders j x there queue) (stands-in s x.sources among)))
    | inr pull ↦ sym (in-all (λ t. parent t ≡ j) s x.sources (wired.leads j x there pull) (stands-in s x.sources among))
        ∙ in-all (λ t. parent t ≡ i) s e.sources (wired.leads i e at other) (stands-in s e.sources stands)
  ]

  pub fed-alone : (s i : ℕ) (e : Planned) → slice_get plan i ≡ Some e → is_queue e.class ≡ false → In s e.sources → place_fed plan s ≡ i
  fed-alone s i e at other m = fed-is plan s i e at (in-stands s e.sources m) (alone s i e at other (in-stands s e.sources m))

-- no pull input that was used is used again
abbrev Unused : List Node → List Link → Link → Type 0
Unused nodes earlier c = ports.is_queue (role_at nodes c.to) ≡ false → uses_input c.to c.input earlier ≡ false

inputs-unused : (nodes : List Node) (earlier links : List Link) → first_after (used_again nodes) earlier links ≡ None → AllByRecursion (Unused nodes earlier) links
inputs-unused nodes earlier [] e = tt
inputs-unused nodes earlier (c ∷ links) e =
    let parts = neither (used_again nodes earlier c) (first_after (used_again nodes) (c ∷ earlier) links) e in
    let here = neither (fails_at (uses_output c.from earlier) c.from_place) (fails_at (not (ports.is_queue (role_at nodes c.to)) && uses_input c.to c.input earlier) c.to_place) parts.0 in
    let later = inputs-unused nodes (c ∷ earlier) links parts.1 in (
      λ pull. ap (λ b. not b && uses_input c.to c.input earlier) (sym pull) ∙ fails-not (not (ports.is_queue (role_at nodes c.to)) && uses_input c.to c.input earlier) c.to_place here.1,
      all-both (Unused nodes (c ∷ earlier)) (Unused nodes (c ∷ earlier)) (Unused nodes earlier) links
          (λ d free also pull. (or_parts ((c.to == d.to) && (c.input == d.input)) (uses_input d.to d.input earlier) (free pull)).1) later later,
    )

-- so each connection to a pull input is the one that stands there
abbrev Enters : List Node → List Link → Link → Type 0
Enters nodes links c = ports.is_queue (role_at nodes c.to) ≡ false → source_at links c.to c.input ≡ c.from

all-enter : (nodes : List Node) (earlier links : List Link) → first_after (used_again nodes) earlier links ≡ None → AllByRecursion (Enters nodes links) links
all-enter nodes earlier [] e = tt
all-enter nodes earlier (c ∷ links) e =
    let parts = neither (used_again nodes earlier c) (first_after (used_again nodes) (c ∷ earlier) links) e in (
      λ pull. ap (λ b. if b then c.from else source_at links c.to c.input) (and_from (c.to == c.to) (c.input == c.input) (eq-eqb c.to c.to refl) (eq-eqb c.input c.input refl)),
      all-both (Unused nodes (c ∷ earlier)) (Enters nodes links) (Enters nodes (c ∷ links)) links
          (λ d free is pull. ap (λ b. if b then c.from else source_at links d.to d.input) (or_parts ((c.to == d.to) && (c.input == d.input)) (uses_input d.to d.input earlier) (free pull)).0 ∙ is pull)
          (inputs-unused nodes (c ∷ earlier) links parts.1) (all-enter nodes (c ∷ earlier) links parts.1),
    )

all-used : (links : List Link) → AllByRecursion (λ (c : Link). c.input < inputs_used c.to links) links
all-used [] = tt
all-used (c ∷ links) = search (rules, eq-eqb, all-both, false≢true, (all-used links))

-- What is known of a connection.
record IsEntry (nodes : List Node) (links : List Link) (c : Link) : Type 0 where
  right : IsRight nodes c
  onward : next links c.from ≡ c.to
  enters : Enters nodes links c
  used : c.input < inputs_used c.to links

all-entries : (nodes : List Node) (links : List Link) → AreSound nodes links → AllByRecursion (IsEntry nodes links) links
all-entries nodes links sound =
    all-both (λ (c : Link). IsRight nodes c × (next links c.from ≡ c.to)) (λ (c : Link). Enters nodes links c × (c.input < inputs_used c.to links)) (IsEntry nodes links) links
    (λ c a b. record { right = a.0; onward = a.1; enters = b.0; used = b.1 })
    (all-both (IsRight nodes) (λ (c : Link). next links c.from ≡ c.to) (λ (c : Link). IsRight nodes c × (next links c.from ≡ c.to)) links (λ c a b. (a, b)) sound.right sound.onward)
    (all-both (Enters nodes links) (λ (c : Link). c.input < inputs_used c.to links) (λ (c : Link). Enters nodes links c × (c.input < inputs_used c.to links)) links (λ c a b. (a, b))
    (all-enter nodes [] links sound.once) (all-used links))

-- an element with a pull input
record IsPulling (o : Option Role) (i input : ℕ) (links : List Link) : Type 0 where
  role : Role
  at : o ≡ Some role
  pull : ports.is_queue (Some role) ≡ false
  source : is_source (Some role) ≡ false
  within : input < inputs_of i role links

pulling : (o : Option Role) (i input : ℕ) (links : List Link) → has_input o input ≡ true → ports.is_queue o ≡ false → input < inputs_used i links → IsPulling o i input links
pulling o i input links has pull used = search (rules, false≢true, ltb-true, and_parts, eqb-true)

stands-map : (f : ℕ → ℕ) (s a n k : ℕ) → a ≤ k → k < a + n → f k ≡ s → stands_in s (map f (range_with_len a n)) ≡ true
stands-map f s a zero k low high is = absurd (omega arith)
stands-map f s a (suc n) k low high is = elim (cases_eq a k) [
  | inl same ↦ ap (λ b. b || stands_in s (map f (range_with_len (a + 1) n))) (eq-eqb (f a) s (ap f same ∙ is))
  | inr other ↦ or_right (f a == s) (stands_in s (map f (range_with_len (a + 1) n))) (stands-map f s (a + 1) n k (omega arith) (omega arith) is)
]

output-used : (i : ℕ) (r : Role) (links : List Link) → ports.is_device (Some r) ≡ false → output_connected i r links ≡ true → uses_output i links ≡ true
output-used i r links other e = search (rules, false≢true)

-- An element is connected to a scheduler or a device, which has it among its sources.
pub record IsPulled (plan : List Planned) (x : ℕ) : Type 0 where
  pub element : Planned
  pub at : slice_get plan (place_fed plan x) ≡ Some element
  pub among : In x element.sources
  pub pull : is_queue element.class ≡ false
  pub source : is_source (Some (role_of element.class)) ≡ false

-- and its output leads there
record IsPulledOn (plan : List Planned) (nodes : List Node) (links : List Link) (x : ℕ) : Type 0 where
  by : IsPulled plan x
  there : role_at nodes (place_fed plan x) ≡ Some (role_of by.element.class)
  onward : next links x ≡ place_fed plan x

only-scheduler : (r : Role) → is_source (Some r) ≡ false → ports.is_queue (Some r) ≡ false → ports.is_device (Some r) ≡ false → is_scheduler (Some r) ≡ true
only-scheduler r source queue device = search (rules, false≢true)

module _ (plan : List Planned) (count : ℕ) (nodes : List Node) (links : List Link) (sound : AreSound nodes links) (is : IsPlanOf plan count nodes links) (wired : IsWired plan (next links)) where
  pulled-by : (x : ℕ) (h : IsLinkFrom (IsEntry nodes links) links x) → IsPulling (role_at nodes h.link.to) h.link.to h.link.input links → IsPulledOn plan nodes links x
  pulled-by x h p =
      let e = is.at h.link.to p.role p.at in
      let enters : source_at links h.link.to h.link.input ≡ x = h.has.enters (ap ports.is_queue p.at ∙ p.pull) ∙ h.from in
      let within = p.within in
      let among : stands_in x e.element.sources ≡ true =
      ap (stands_in x) (e.sources ∙ pull-sources count links h.link.to p.role p.pull)
      ∙ stands-map (source_at links h.link.to) x 0 (inputs_of h.link.to p.role links) h.link.input (omega arith) (omega arith) enters in
      let pull : is_queue e.element.class ≡ false = queue-class e.element.class ∙ ap (λ r. ports.is_queue (Some r)) e.role ∙ p.pull in
      let fed : place_fed plan x ≡ h.link.to = fed-alone plan (next links) wired x h.link.to e.element e.at pull (stands-in x e.element.sources among) in
      record {
        by = record {
          element = e.element;
          at = ap (slice_get plan) fed ∙ e.at;
          among = stands-in x e.element.sources among;
          pull = pull;
          source = ap (λ r. is_source (Some r)) e.role ∙ p.source;
        };
        there = ap (role_at nodes) fed ∙ p.at ∙ ap Some (sym e.role);
        onward = ap (next links) (sym h.from) ∙ h.has.onward ∙ sym fed;
      }

  pulled : (x : ℕ) (r : Role) → role_at nodes x ≡ Some r → is_source (Some r) ≡ false → ports.is_device (Some r) ≡ false → IsPulledOn plan nodes links x
  pulled x r at source device =
      let h = link-from (IsEntry nodes links) links x (all-entries nodes links sound) (output-used x r links device (sound.connected x r at).output) in
      pulled-by x h (pulling (role_at nodes h.link.to) h.link.to h.link.input links h.has.right.input
      (sym h.has.right.kind ∙ ap (λ f. is_source (role_at nodes f)) h.from ∙ ap is_source at ∙ source) h.has.used)

  device-role : (x : ℕ) (r : Role) → role_at nodes x ≡ Some r → is_device_at (slice_get plan x) ≡ ports.is_device (Some r)
  device-role x r at = let e = is.at x r at in ap is_device_at e.at ∙ device-class e.element.class ∙ ap (λ t. ports.is_device (Some t)) e.role

  output-role : (x : ℕ) (r : Role) → role_at nodes x ≡ Some r → has_output (slice_get plan x) ≡ not (ports.is_device (Some r))
  output-role x r at = let e = is.at x r at in ap has_output e.at ∙ ap not (device-class e.element.class ∙ ap (λ t. ports.is_device (Some t)) e.role)

  -- by the outputs of the plan one comes where the connections lead
  walk : (n x : ℕ) (r : Role) → role_at nodes x ≡ Some r → is_source (Some r) ≡ false → ports.is_device (role_at nodes (follow links n x)) ≡ true
      → is_device_at (slice_get plan (place_after plan n x)) ≡ true
  walk zero x r at source ends = device-role x r at ∙ ap ports.is_device (sym at) ∙ ends
  walk (suc n) x r at source ends = elim (cases_Bool (ports.is_device (Some r))) [
    | inl device ↦ ap (λ b. is_device_at (slice_get plan (if b then place_after plan n (place_fed plan x) else x))) (output-role x r at ∙ ap not device) ∙ (device-role x r at ∙ device)
    | inr other ↦ (let p = pulled x r at source other in
        ap (λ b. is_device_at (slice_get plan (if b then place_after plan n (place_fed plan x) else x))) (output-role x r at ∙ ap not other)
        ∙ walk n (place_fed plan x) (role_of p.by.element.class) p.there p.by.source (ap (λ k. ports.is_device (role_at nodes (follow links n k))) (sym p.onward) ∙ ends))
  ]

  queue-path : (x : ℕ) → role_at nodes x ≡ Some role.Queue → HasPath plan x
  queue-path x at =
      let p = pulled x role.Queue at refl refl in
      let has : has_output (slice_get plan x) ≡ true = output-role x role.Queue at in
      let r = role_of p.by.element.class in
      elim (cases_Bool (ports.is_device (Some r))) [
        | inl device ↦ record { steps = suc zero; end = place_fed plan x; leads = (has, (refl, device-role (place_fed plan x) r p.there ∙ device)) }
        | inr other ↦ (let ends = sound.ends (place_fed plan x) r p.there (only-scheduler r p.by.source (sym (queue-class p.by.element.class) ∙ p.by.pull) other) in
            let later = has-path plan (length nodes) (place_fed plan x) (walk (length nodes) (place_fed plan x) r p.there p.by.source ends) in
            record { steps = suc later.steps; end = later.end; leads = (has, later.leads) })
      ]

-- What is known of the connections of a plan.
pub record AreFed (plan : List Planned) : Type 0 where
  -- what is connected to an element that is no queue is connected to it alone
  pub leads : (i : ℕ) (e : Planned) → slice_get plan i ≡ Some e → is_queue e.class ≡ false → AllByRecursion (λ s. place_fed plan s ≡ i) e.sources
  -- all elements but Senders and devices are connected to a scheduler or a device
  pub pulled : (x : ℕ) (e : Planned) → slice_get plan x ≡ Some e → is_source (Some (role_of e.class)) ≡ false → is_device e.class ≡ false → IsPulled plan x
  -- the path from a queue ends at a device
  pub path : (x : ℕ) (e : Planned) → slice_get plan x ≡ Some e → is_queue e.class ≡ true → HasPath plan x

pub plan-fed : (elements : List Element) (wires : List Wire) → fault_of elements wires ≡ None → AreFed (plan_of elements wires)
plan-fed elements wires none =
    let count = length (all_known elements) in
    let nodes = nodes_of elements in
    let links = links_of elements wires in
    let plan = plan_of elements wires in
    let sound = sound-nodes elements wires none in
    let is = is-plan elements wires in
    let wired : IsWired (plan_of elements wires) (next (links_of elements wires)) =
    record { leads = sources-lead elements wires none; senders = queue-senders elements wires none; sent = sender-sent elements wires none } in
    record {
      leads = λ i e at other. all-of (λ s. place_fed plan s ≡ i) e.sources (λ s m. fed-alone plan (next links) wired s i e at other m);
      pulled = λ x e at source device. (pulled plan count nodes links sound is wired x (role_of e.class) (node-at count links elements 0 x e at) source (sym (device-class e.class) ∙ device)).by;
      path = λ x e at queue.
          queue-path plan count nodes links sound is wired x
          (node-at count links elements 0 x e at ∙ queue-role (Some (role_of e.class)) (sym (queue-class e.class) ∙ queue));
    }

pub denoted-fed : (text : List ℕ) (plan : List Planned) → Denotes text plan → AreFed plan
denoted-fed text plan d = subst AreFed (sym d.is) (plan-fed (elements_of text d.faultless.statements) (wires_of text d.faultless.statements) d.faultless.sound)
