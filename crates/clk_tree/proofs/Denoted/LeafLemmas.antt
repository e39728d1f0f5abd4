-- The leaves of the tree of a device are the queues whose paths end there.
use Rattle.std.proofs.Common.{◌≡◌, ℕ, ◌<◌, zero, suc, true, false, List, [], ◌∷◌, length, take, Option, Some, None, slice_get, inl, inr, refl, sym, ap, subst, ◌∙◌, eq-eqb, ne_eqb, rules}
use Rattle.std.specs.List.{AllByRecursion}
use Rattle.std.proofs.lemmas.Bool.{cases_eq, false≢true, false_from_ne_true, not_from_false, not-true}
use Rattle.std.proofs.lemmas.Option.{same_Some}
use Rattle.clk_packet.specs.Scheduler.{Scheduler}
use Rattle.clk_packet.specs.Lists.{stands_in, In}
use Rattle.clk_sched.specs.Tree.{Row, end, leaf, node, Tree, root, leaves}
use Rattle.clk_syntax.specs.Classes.{Class, role_of}
use Rattle.clk_syntax.specs.Ports.{is_source}
use Rattle.clk_tree.specs.Plan.{Planned, Denotes}
use Rattle.clk_tree.specs.PlanTree.{is_queue, is_device, queue_count, queue_number, IsNode, IsRowOf, IsTreeOf, device_count}
use Rattle.clk_tree.specs.inside.PlanTree.{is_queue_at, sources_at}
use Rattle.clk_tree.specs.PlanPaths.{has_output, place_fed, device_of}
use Rattle.clk_tree.specs.PlanParts.{Queued, queues_of, leads_to}
use Rattle.clk_tree.proofs.Distinct.DistinctNumbers.{in-append, in-left, in-right, in-stands, stands-in, mapped-from, in-mapped}
use Rattle.clk_tree.proofs.Distinct.DistinctQueues.{number-of, one-number}
use Rattle.clk_tree.proofs.Distinct.DistinctTrees.{Stands, places, leaf-stands, node-stands, node-queue, queue-device, leaves-places, device-queue}
use Rattle.clk_tree.proofs.Distinct.DistinctPlans.{IsDeviceAt, device-at}
use Rattle.clk_tree.proofs.Denoted.DevicePaths.{is_device_at, Leads, leads-device, leads-to-device, one-device, device-below}
use Rattle.clk_tree.proofs.Denoted.FedPlans.{AreFed, IsPulled, denoted-fed}
use Rattle.clk_tree.proofs.Sound.SoundNodes.{queue-class}
use Rattle.clk_tree.proofs.Sound.SoundQueues.{queue-role}
use Rattle.clk_tree.proofs.Denoted.QueueLemmas.{number-queue, queue-number}

stands-output : (o : Option Planned) → Stands o → has_output o ≡ true
stands-output o h = search (rules, not_from_false)

-- each element to which a row is connected stands in it
heads : (plan : List Planned) (sources : List ℕ) (row : Row) (x : ℕ) → IsRowOf plan sources row → In x sources → In x (places plan sources row)
heads plan [] row x is m = absurd m
heads plan (s ∷ more) end x is m = absurd is
heads plan (s ∷ more) (leaf q row) x is (inl e) = inl e
heads plan (s ∷ more) (leaf q row) x is (inr m) = inr (heads plan more row x is.1 m)
heads plan (s ∷ more) (node over inputs row) x is (inl e) = inl e
heads plan (s ∷ more) (node over inputs row) x is (inr m) = inr (in-right x (places plan (sources_at (slice_get plan s)) inputs) (places plan more row) (heads plan more row x is.2 m))

-- and so does each element that is connected to a scheduler in it
inner : (plan : List Planned) (sources : List ℕ) (row : Row) (x y : ℕ) (e : Planned) → IsRowOf plan sources row → slice_get plan y ≡ Some e → is_queue e.class ≡ false → In x e.sources
    → In y (places plan sources row) → In x (places plan sources row)
inner plan [] end x y e is at other among m = absurd m
inner plan [] (leaf q row) x y e is at other among m = absurd m
inner plan [] (node over inputs row) x y e is at other among m = absurd m
inner plan (s ∷ more) end x y e is at other among m = absurd m
inner plan (s ∷ more) (leaf q row) x y e is at other among (inl same) =
    let queue = (number-of (queue_count (take s plan)) q (slice_get plan s) is.0).0 in
    absurd (false≢true (sym other ∙ ap is_queue_at (sym (ap (slice_get plan) same ∙ at)) ∙ queue))
inner plan (s ∷ more) (leaf q row) x y e is at other among (inr m) = inr (inner plan more row x y e is.1 at other among m)
inner plan (s ∷ more) (node over inputs row) x y e is at other among (inl same) =
    let sources : e.sources ≡ sources_at (slice_get plan s) = ap sources_at (sym (ap (slice_get plan) same ∙ at)) in
    inr (in-left x (places plan (sources_at (slice_get plan s)) inputs) (places plan more row) (heads plan (sources_at (slice_get plan s)) inputs x is.1 (subst (In x) sources among)))
inner plan (s ∷ more) (node over inputs row) x y e is at other among (inr m) = elim (in-append y (places plan (sources_at (slice_get plan s)) inputs) (places plan more row) m) [
  | inl k ↦ inr (in-left x (places plan (sources_at (slice_get plan s)) inputs) (places plan more row) (inner plan (sources_at (slice_get plan s)) inputs x y e is.1 at other among k))
  | inr k ↦ inr (in-right x (places plan (sources_at (slice_get plan s)) inputs) (places plan more row) (inner plan more row x y e is.2 at other among k))
]

-- The elements at the device at the top of a tree.
module _ (plan : List Planned) (fed : AreFed plan) (top : ℕ) (device : Planned) (top_at : slice_get plan top ≡ Some device) (top_is : is_device device.class ≡ true) where
  pulled : (x : ℕ) (e : Planned) → slice_get plan x ≡ Some e → is_source (Some (role_of e.class)) ≡ false → has_output (slice_get plan x) ≡ true → IsPulled plan x
  pulled x e at source output = fed.pulled x e at source (not-true (is_device e.class) (ap has_output (sym at) ∙ output))

  -- a path leads from each element of the tree to the device
  below-node : (over : Scheduler) (n s : ℕ) (o : Option Planned) → slice_get plan s ≡ o → IsNode over o → Leads plan n (place_fed plan s) top → AllByRecursion (λ t. Leads plan (suc n) (place_fed plan t) top) (sources_at o)
  below-node over n s None at is leads = absurd is
  below-node over n s (Some e) at is leads = each e.sources (fed.leads s e at (node-queue e.class over (length e.sources) is))
    where
      has : has_output (slice_get plan s) ≡ true
      has = ap has_output at ∙ stands-output (Some e) (node-stands over (Some e) is)

      each : (ts : List ℕ) → AllByRecursion (λ t. place_fed plan t ≡ s) ts → AllByRecursion (λ t. Leads plan (suc n) (place_fed plan t) top) ts
      each [] all = tt
      each (t ∷ ts) all = (subst (λ k. Leads plan (suc n) k top) (sym all.0) (has, leads), each ts all.1)

  reaches : (n : ℕ) (sources : List ℕ) (row : Row) (x : ℕ) → IsRowOf plan sources row → AllByRecursion (λ s. Leads plan n (place_fed plan s) top) sources → In x (places plan sources row)
      → (m : ℕ) × Leads plan m x top
  reaches n [] end x is below m = absurd m
  reaches n [] (leaf q row) x is below m = absurd m
  reaches n [] (node over inputs row) x is below m = absurd m
  reaches n (s ∷ more) end x is below m = absurd m
  reaches n (s ∷ more) (leaf q row) x is below (inl e) =
      (suc n, subst (λ k. Leads plan (suc n) k top) e (stands-output (slice_get plan s) (leaf-stands (queue_count (take s plan)) q (slice_get plan s) is.0), below.0))
  reaches n (s ∷ more) (leaf q row) x is below (inr m) = reaches n more row x is.1 below.1 m
  reaches n (s ∷ more) (node over inputs row) x is below (inl e) =
      (suc n, subst (λ k. Leads plan (suc n) k top) e (stands-output (slice_get plan s) (node-stands over (slice_get plan s) is.0), below.0))
  reaches n (s ∷ more) (node over inputs row) x is below (inr m) = elim (in-append x (places plan (sources_at (slice_get plan s)) inputs) (places plan more row) m) [
    | inl k ↦ reaches (suc n) (sources_at (slice_get plan s)) inputs x is.1 (below-node over n s (slice_get plan s) refl is.0 below.0) k
    | inr k ↦ reaches n more row x is.2 below.1 k
  ]

  root-leads : AllByRecursion (λ s. Leads plan zero (place_fed plan s) top) device.sources
  root-leads = each device.sources (fed.leads top device top_at (device-queue device.class top_is))
    where
      each : (ts : List ℕ) → AllByRecursion (λ t. place_fed plan t ≡ top) ts → AllByRecursion (λ t. Leads plan zero (place_fed plan t) top) ts
      each [] all = tt
      each (t ∷ ts) all = ((all.0, ap is_device_at (ap (slice_get plan) all.0 ∙ top_at) ∙ top_is), each ts all.1)

  -- an element from which a path leads to the device stands in its tree
  stands : (t : Tree) → IsRowOf plan device.sources (root t) → (n x : ℕ) (e : Planned) → slice_get plan x ≡ Some e → is_source (Some (role_of e.class)) ≡ false → Leads plan (suc n) x top
      → In x (places plan device.sources (root t))
  stands t row zero x e at source leads =
      let p = pulled x e at source leads.0 in
      let same : p.element ≡ device = same_Some p.element device (sym p.at ∙ ap (slice_get plan) leads.1.0 ∙ top_at) in
      heads plan device.sources (root t) x row (subst (λ (y : Planned). In x y.sources) same p.among)
  stands t row (suc n) x e at source leads =
      let p = pulled x e at source leads.0 in
      inner plan device.sources (root t) x (place_fed plan x) p.element row p.at p.pull p.among (stands t row n (place_fed plan x) p.element p.at p.source leads.1)

-- the element at which a queue of some number stands
queue-element : (plan : List Planned) (x : ℕ) (o : Option Planned) → slice_get plan x ≡ o → is_queue_at o ≡ true → (e : Planned) × (slice_get plan x ≡ Some e) × (is_queue e.class ≡ true)
queue-element plan x o at is = search (rules, false≢true)

queue-at : (plan : List Planned) (x q : ℕ) → queue_number plan x ≡ Some q → (e : Planned) × (slice_get plan x ≡ Some e) × (is_queue e.class ≡ true)
queue-at plan x q is = queue-element plan x (slice_get plan x) refl (number-of (queue_count (take x plan)) q (slice_get plan x) is).0

queue-source : (class : Class) → is_queue class ≡ true → is_source (Some (role_of class)) ≡ false
queue-source class is = search (rules, queue-role, queue-class)

module _ (plan : List Planned) (fed : AreFed plan) (d : ℕ) (below : d < device_count plan) (t : Tree) (its : IsTreeOf plan d t) where
  here : IsDeviceAt plan d
  here = device-at plan d below

  row : IsRowOf plan here.element.sources (root t)
  row = subst (λ sources. IsRowOf plan sources (root t)) here.sources its

  -- the queue of each leaf leads to the device
  leaf-leads : (q : ℕ) → stands_in q (leaves (root t)) ≡ true → (x : ℕ) × (queue_number plan x ≡ Some q) × (device_of plan x ≡ d)
  leaf-leads q is =
      let from = mapped-from (queue_number plan) q (places plan here.element.sources (root t))
      (subst (In q) (leaves-places plan here.element.sources (root t) row) (stands-in q (leaves (root t)) is)) in
      let path = reaches plan fed here.place here.element here.at here.is zero here.element.sources (root t) from.from row (root-leads plan fed here.place here.element here.at here.is) from.among in
      (from.from, from.gives, leads-to-device plan path.0 from.from here.place path.1 ∙ here.before)

  -- and each queue that leads to the device is a leaf
  leads-leaf : (q x : ℕ) → queue_number plan x ≡ Some q → device_of plan x ≡ d → stands_in q (leaves (root t)) ≡ true
  leads-leaf q x number leads =
      let e = queue-at plan x q number in
      let path = fed.path x e.0 e.1 e.2 in
      let last : path.end ≡ here.place =
      one-device plan path.end here.place (leads-device plan path.steps x path.end path.leads) (ap is_device_at here.at ∙ here.is)
      (sym (leads-to-device plan path.steps x path.end path.leads) ∙ leads ∙ sym here.before) in
      let among = by_steps path.steps e.0 e.1 e.2 (subst (Leads plan path.steps x) last path.leads) in
      in-stands q (leaves (root t)) (subst (In q) (sym (leaves-places plan here.element.sources (root t) row)) (in-mapped (queue_number plan) x q (places plan here.element.sources (root t)) among number))
    where
      by_steps : (n : ℕ) (e : Planned) → slice_get plan x ≡ Some e → is_queue e.class ≡ true → Leads plan n x here.place → In x (places plan here.element.sources (root t))
      by_steps zero e at is h = absurd (false≢true (sym (ap is_device_at at ∙ queue-device e.class is) ∙ h.1))
      by_steps (suc n) e at is h = stands plan fed here.place here.element here.at here.is t row n x e at (queue-source e.class is) h

  pub leaves-are : (q : ℕ) → stands_in q (leaves (root t)) ≡ leads_to d (slice_get (queues_of plan) q)
  leaves-are q = by_queue (slice_get (queues_of plan) q) refl
    where
      by_queue : (o : Option Queued) → slice_get (queues_of plan) q ≡ o → stands_in q (leaves (root t)) ≡ leads_to d o
      by_queue None at = false_from_ne_true (stands_in q (leaves (root t))) (λ is.
          let leaf = leaf-leads q is in
          let r = number-queue plan leaf.0 q leaf.1 in
          let none : None ≡ Some r.0 = sym at ∙ r.1 in
          absurd (cc))
      by_queue (Some r) at =
          let k = queue-number plan q r at in
          elim (cases_eq r.device d) [
            | inl same ↦ leads-leaf q k.place k.number (sym k.device ∙ same) ∙ sym (eq-eqb r.device d same)
            | inr other ↦ false_from_ne_true (stands_in q (leaves (root t))) (λ is.
                let leaf = leaf-leads q is in
                other (k.device ∙ ap (device_of plan) (one-number plan k.place leaf.0 q k.number leaf.1) ∙ leaf.2)) ∙ sym (ne_eqb r.device d other)
          ]

all-from : {A : Type 0} (P : A → Type 0) (xs : List A) → ((i : ℕ) (x : A) → slice_get xs i ≡ Some x → P x) → AllByRecursion P xs
all-from P [] each = tt
all-from P (x ∷ xs) each = (each 0 x refl, all-from P xs (λ i y at. each (suc i) y at))

pub queue-device-below : (plan : List Planned) → AreFed plan → (q : ℕ) (r : Queued) → slice_get (queues_of plan) q ≡ Some r → r.device < device_count plan
queue-device-below plan fed q r at =
    let k = queue-number plan q r at in
    let e = queue-at plan k.place q k.number in
    let path = fed.path k.place e.0 e.1 e.2 in
    subst (λ n. n < device_count plan) (sym (k.device ∙ leads-to-device plan path.steps k.place path.end path.leads))
    (device-below plan path.end (leads-device plan path.steps k.place path.end path.leads))

-- of what a text denotes
pub denoted-leaves : (text : List ℕ) (plan : List Planned) (d : ℕ) → Denotes text plan → d < device_count plan → (t : Tree) → IsTreeOf plan d t
    → (q : ℕ) → stands_in q (leaves (root t)) ≡ leads_to d (slice_get (queues_of plan) q)
denoted-leaves text plan d h below t its = leaves-are plan (denoted-fed text plan h) d below t its

pub denoted-devices : (text : List ℕ) (plan : List Planned) → Denotes text plan → AllByRecursion (λ (q : Queued). q.device < device_count plan) (queues_of plan)
denoted-devices text plan h = all-from (λ (q : Queued). q.device < device_count plan) (queues_of plan) (queue-device-below plan (denoted-fed text plan h))
