-- The plan of a text without a fault can be made trees: each device has one input, at which stands a queue or a scheduler over such
-- elements, within the limits of trees.
use Rattle.std.proofs.Common.{◌≡◌, ℕ, ◌+◌, ◌<◌, ◌≤◌, inl, inr, zero, suc, Bool, true, false, if◌then◌else◌, List, [], ◌∷◌, length, map, Option, Some, None, MatchOption, slice_get, refl, sym, ap, subst, ◌∙◌, arith, rules}
use Rattle.std.specs.List.{AllByRecursion, range_with_len}
use Rattle.std.proofs.lemmas.List.FromFn.{length-map-range_with_len}
use Rattle.std.proofs.lemmas.Option.{same_Some}
use Rattle.clk_packet.specs.declared.limits.TheConstants.{MAX_LEVELS, MAX_INPUTS}
use Rattle.clk_syntax.specs.declared.naming.class.Role.{Role}
use Rattle.clk_syntax.specs.declared.naming.class.Role.TheVariants as role
use Rattle.clk_syntax.specs.declared.node.Node.{Node}
use Rattle.clk_syntax.specs.declared.node.Link.{Link}
use Rattle.clk_syntax.specs.Source.{Element, Wire}
use Rattle.clk_syntax.specs.Classes.{role_of}
use Rattle.clk_syntax.specs.Ports.{role_at, is_queue, is_device, is_scheduler, inputs_of, next}
use Rattle.clk_syntax.specs.Faults.{nodes_of, links_of, fault_of, naming_fault, nodes_fault}
use Rattle.clk_syntax.proofs.Callers.Checks.{neither}
use Rattle.clk_tree.specs.Plan.{Planned, source_at, sources_of, all_known, plan_of}
use Rattle.clk_tree.specs.PlanTree as tree
use Rattle.clk_tree.specs.PlanTree.{device_sources, device_count}
use Rattle.clk_tree.specs.inside.PlanTree.{is_queue_at, IsOver, IsScheduled}
use Rattle.clk_tree.proofs.Sound.SoundClasses.{over-inputs}
use Rattle.clk_tree.proofs.Sound.SoundNodes.{IsPlanned, planned-at, node-at, queue-planned, device-class, some-device}
use Rattle.clk_tree.proofs.Sound.SoundPaths.{AreSound, are-sound, Feeds, fed, Way, way-short}

-- a plan has each element at its place
pub record IsPlanOf (plan : List Planned) (count : ℕ) (nodes : List Node) (links : List Link) : Type 0 where
  pub at : (i : ℕ) (r : Role) → role_at nodes i ≡ Some r → IsPlanned plan count links i i r

-- what is connected to the inputs of an element
abbrev pub inputs_at : List Link → ℕ → Role → List ℕ
inputs_at links i r = map (source_at links i) (range_with_len 0 (inputs_of i r links))

pub pull-sources : (count : ℕ) (links : List Link) (i : ℕ) (r : Role) → is_queue (Some r) ≡ false → sources_of count links i r ≡ inputs_at links i r
pull-sources count links i r pull = search rules

pub all-range : (P : ℕ → Type 0) (f : ℕ → ℕ) (a n : ℕ) → ((k : ℕ) → k < a + n → P (f k)) → AllByRecursion P (map f (range_with_len a n))
all-range P f a zero each = tt
all-range P f a (suc n) each = (each a (omega arith), all-range P f (a + 1) n (λ k below. each k (omega arith)))

scheduler-pulls : (r : Role) → is_scheduler (Some r) ≡ true → is_queue (Some r) ≡ false
scheduler-pulls r is = search rules

module _ (plan : List Planned) (count : ℕ) (nodes : List Node) (links : List Link) (most : ℕ) (sound : AreSound nodes links) (is : IsPlanOf plan count nodes links) (large : MAX_LEVELS ≤ most) where
  queue-done : (m s : ℕ) → is_queue_at (slice_get plan s) ≡ true → IsScheduled plan m s
  queue-done m s q = search rules

  -- a scheduler whose inputs are scheduled a level below
  over-done : (m s : ℕ) (r : Role) → role_at nodes s ≡ Some r → is_scheduler (Some r) ≡ true → AllByRecursion (IsScheduled plan m) (inputs_at links s r) → IsScheduled plan (suc m) s
  over-done m s r at scheduler below =
      let h = is.at s r at in
      let sources : h.element.sources ≡ inputs_at links s r = h.sources ∙ pull-sources count links s r (scheduler-pulls r scheduler) in
      let same : role_of h.element.class ≡ r = h.role in
      let count-is : inputs_of s (role_of h.element.class) links ≡ length h.element.sources =
      ap (λ t. inputs_of s t links) same ∙ sym (ap length sources ∙ length-map-range_with_len (source_at links s) 0 (inputs_of s r links)) in
      let over : IsOver h.element.class (inputs_of s (role_of h.element.class) links) =
      over-inputs h.element.class s links h.limits (ap (λ t. is_scheduler (Some t)) same ∙ scheduler) (subst (λ t. inputs_of s t links ≤ MAX_INPUTS) (sym same) (sound.small s r at).inputs) in
      inr (subst (λ o. MatchOption o ⊥ (λ e. IsOver e.class (length e.sources) × AllByRecursion (IsScheduled plan m) e.sources)) (sym h.at)
      (subst (IsOver h.element.class) count-is over, subst (AllByRecursion (IsScheduled plan m)) (sym sources) below))

  -- what feeds an element after which so many schedulers stand
  fed-done : (m k i s : ℕ) → k + m ≡ most → Way nodes links k i → Feeds nodes links i s
      → ((n : ℕ) (r : Role) → m ≡ suc n → role_at nodes s ≡ Some r → is_scheduler (Some r) ≡ true → Way nodes links (suc k) s → AllByRecursion (IsScheduled plan n) (inputs_at links s r))
      → IsScheduled plan m s
  fed-done m k i s levels way h below = elim h.pulls [
    | inl queue ↦ queue-done m s (queue-planned plan count links s s (is.at s role.Queue (h.at ∙ ap Some queue)))
    | inr scheduler ↦ by_levels m levels scheduler (subst (Way nodes links k) (sym h.to) way) below
  ]
    where
      by_levels : (m : ℕ) → k + m ≡ most → is_scheduler (Some h.is) ≡ true → Way nodes links k (next links s)
          → ((n : ℕ) (r : Role) → m ≡ suc n → role_at nodes s ≡ Some r → is_scheduler (Some r) ≡ true → Way nodes links (suc k) s → AllByRecursion (IsScheduled plan n) (inputs_at links s r))
          → IsScheduled plan m s
      by_levels zero levels scheduler on below =
          let short = way-short nodes links (suc k) s h.is sound (ap is_scheduler h.at ∙ scheduler, on) h.at scheduler in
          absurd (omega arith)
      by_levels (suc m) levels scheduler on below =
          over-done m s h.is h.at scheduler (below m h.is refl h.at scheduler (ap is_scheduler h.at ∙ scheduler, on))

  all-done : (m k i : ℕ) (r : Role) → k + m ≡ most → Way nodes links k i → role_at nodes i ≡ Some r → is_queue (Some r) ≡ false → AllByRecursion (IsScheduled plan m) (inputs_at links i r)
  all-done zero k i r levels way at pull =
      all-range (IsScheduled plan zero) (source_at links i) 0 (inputs_of i r links)
      (λ p within. fed-done zero k i (source_at links i p) levels way (fed nodes links i p r sound at pull (omega arith)) (λ n t none. absurd (cc)))
  all-done (suc m) k i r levels way at pull =
      all-range (IsScheduled plan (suc m)) (source_at links i) 0 (inputs_of i r links)
      (λ p within. fed-done (suc m) k i (source_at links i p) levels way (fed nodes links i p r sound at pull (omega arith))
      (λ n t same there scheduler on. let e : m ≡ n = cc in subst (λ l. AllByRecursion (IsScheduled plan l) (inputs_at links (source_at links i p) t)) e
      (all-done m (suc k) (source_at links i p) t (omega arith) on there (scheduler-pulls t scheduler))))

pub is-plan : (elements : List Element) (wires : List Wire) → IsPlanOf (plan_of elements wires) (length (all_known elements)) (nodes_of elements) (links_of elements wires)
is-plan elements wires = record {
  at = λ i r at.
      subst (λ j. IsPlanned (plan_of elements wires) (length (all_known elements)) (links_of elements wires) j i r) (omega arith)
      (planned-at (length (all_known elements)) (links_of elements wires) elements 0 i r at);
}

pub sound-nodes : (elements : List Element) (wires : List Wire) → fault_of elements wires ≡ None → AreSound (nodes_of elements) (links_of elements wires)
sound-nodes elements wires none =
    are-sound (nodes_of elements) (links_of elements wires) (neither (naming_fault elements wires) (nodes_fault (nodes_of elements) (links_of elements wires)) none).1

-- What is connected to a device: one element, which is scheduled.
pub record IsRoot (plan : List Planned) (sources : List ℕ) : Type 0 where
  pub top : ℕ
  pub source : sources ≡ top ∷ []
  pub is : IsScheduled plan MAX_LEVELS top

device-root : (elements : List Element) (wires : List Wire) → fault_of elements wires ≡ None → (i : ℕ) (e : Planned) → slice_get (plan_of elements wires) i ≡ Some e → tree.is_device e.class ≡ true
    → IsRoot (plan_of elements wires) e.sources
device-root elements wires none i e at is =
    let count = length (all_known elements) in
    let links = links_of elements wires in
    let sound = sound-nodes elements wires none in
    let plan = is-plan elements wires in
    let there : role_at (nodes_of elements) i ≡ Some role.Device =
    device-role (role_at (nodes_of elements) i) (ap is_device (node-at count links elements 0 i e at) ∙ sym (device-class e.class) ∙ is) in
    let h = plan.at i role.Device there in
    let same : h.element ≡ e = same_Some h.element e (sym h.at ∙ at) in
    let done = all-done (plan_of elements wires) count (nodes_of elements) links MAX_LEVELS sound plan (omega arith) MAX_LEVELS 0 i role.Device (omega arith) (ap is_device there) there refl in
    record { top = source_at links i 0; source = ap (λ (p : Planned). p.sources) (sym same) ∙ h.sources; is = done.0 }
  where
    device-role : (o : Option Role) → is_device o ≡ true → o ≡ Some role.Device
    device-role o e = search (rules, sound-nodes, is-plan, node-at, device-class, same_Some)

all-devices : (P : List ℕ → Type 0) (plan : List Planned) → ((i : ℕ) (e : Planned) → slice_get plan i ≡ Some e → tree.is_device e.class ≡ true → P e.sources) → AllByRecursion P (device_sources plan)
all-devices P [] each = tt
all-devices P (x ∷ plan) each = by_test (tree.is_device x.class) (each 0 x refl) (all-devices P plan (λ i e at is. each (suc i) e at is))
  where
    by_test : (b : Bool) → (b ≡ true → P x.sources) → AllByRecursion P (device_sources plan) → AllByRecursion P (if b then x.sources ∷ device_sources plan else device_sources plan)
    by_test b here later = search rules

-- One element is connected to each device of a plan without a fault, and it is scheduled.
pub plan-scheduled : (elements : List Element) (wires : List Wire) → fault_of elements wires ≡ None → AllByRecursion (IsRoot (plan_of elements wires)) (device_sources (plan_of elements wires))
plan-scheduled elements wires none = all-devices (IsRoot (plan_of elements wires)) (plan_of elements wires) (device-root elements wires none)

-- There is a device.
pub plan-device : (elements : List Element) (wires : List Wire) → fault_of elements wires ≡ None → 1 ≤ device_count (plan_of elements wires)
plan-device elements wires none = some-device (length (all_known elements)) (links_of elements wires) elements 0 (sound-nodes elements wires none).device
