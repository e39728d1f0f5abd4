-- In the plan of a text without a fault what is connected to a queue are Senders, and each Sender is connected to one element, a queue.
use Rattle.std.proofs.Common.{◌≡◌, ℕ, ◌+◌, ◌<◌, ◌≤◌, ◌==◌, inl, inr, zero, suc, Bool, true, false, if◌then◌else◌, List, [], ◌∷◌, length, map, filter, Option, Some, None, slice_get, refl, sym, ap, subst, ◌∙◌, arith, eqb-true, eq-eqb, rules}
use Rattle.std.specs.List.{AllByRecursion, range_with_len}
use Rattle.std.proofs.lemmas.Bool.{false≢true, cases_eq, cases_Bool, or_cases, or_from}
use Rattle.std.proofs.lemmas.Option.{slice_get_within, same_Some}
use Rattle.clk_packet.specs.Lists.{stands_in, are_distinct}
use Rattle.clk_syntax.specs.declared.naming.class.Role.{Role}
use Rattle.clk_syntax.specs.declared.naming.class.Role.TheVariants as role
use Rattle.clk_syntax.specs.declared.node.Node.{Node}
use Rattle.clk_syntax.specs.declared.node.Link.{Link}
use Rattle.clk_syntax.specs.Classes.{sender, role_of}
use Rattle.clk_syntax.specs.Source.{Element, Wire}
use Rattle.clk_syntax.specs.Ports.{role_at, is_source, is_queue, uses_output, inputs_of, target}
use Rattle.clk_syntax.specs.Faults.{nodes_of, links_of, fault_of}
use Rattle.clk_tree.specs.Plan.{Planned, Known, is_connected, source_at, sources_of, all_known, planned_from, plan_of}
use Rattle.clk_tree.specs.PlanTree as tree
use Rattle.clk_tree.proofs.Sound.SoundChecks.{IsRight}
use Rattle.clk_tree.proofs.Sound.SoundNodes.{IsPlanned, node-at, queue-class}
use Rattle.clk_tree.proofs.Sound.SoundPaths.{AreSound, Feeds, fed}
use Rattle.clk_tree.proofs.Sound.SoundPlans.{IsPlanOf, is-plan, sound-nodes, pull-sources}
use Rattle.clk_sched.proofs.Callers.Lists.{is_number}

pub length-planned : (count : ℕ) (links : List Link) (i : ℕ) (ks : List Known) → length (planned_from count links i ks) ≡ length ks
length-planned count links i [] = refl
length-planned count links i (k ∷ ks) = ap suc (length-planned count links (i + 1) ks)

-- the connection from an element that leads somewhere
pub record IsLinkFrom (P : Link → Type 0) (links : List Link) (s : ℕ) : Type 0 where
  pub link : Link
  pub has : P link
  pub from : link.from ≡ s
  pub target : target s links ≡ Some link.to

pub link-from : (P : Link → Type 0) (links : List Link) (s : ℕ) → AllByRecursion P links → uses_output s links ≡ true → IsLinkFrom P links s
link-from P [] s all uses = absurd (cc)
link-from P (c ∷ links) s all uses = search (rules, eqb-true, (link-from P links s all.1))

target-used : (links : List Link) (s i : ℕ) → target s links ≡ Some i → uses_output s links ≡ true
target-used [] s i e = absurd (cc)
target-used (c ∷ links) s i e = search (rules, (target-used links s i))

pub number-is : (n : ℕ) (o : Option ℕ) → is_number n o ≡ true → o ≡ Some n
number-is n o e = search (rules, eqb-true)

pub all-filter : (P : ℕ → Type 0) (p : ℕ → Bool) (xs : List ℕ) → ((x : ℕ) → p x ≡ true → P x) → AllByRecursion P (filter p xs)
all-filter P p [] each = tt
all-filter P p (x ∷ xs) each = search (rules, (all-filter P p xs each))

source-role : (o : Option Role) → is_source o ≡ true → o ≡ Some role.Source
source-role o e = search rules

pub queue-role : (o : Option Role) → is_queue o ≡ true → o ≡ Some role.Queue
queue-role o e = search rules

-- at a place of a plan stands a Sender
pub record IsSenderAt (plan : List Planned) (s : ℕ) : Type 0 where
  pub element : Planned
  pub number : ℕ
  pub at : slice_get plan s ≡ Some element
  pub is : element.class ≡ sender number

sender-planned : (plan : List Planned) (count : ℕ) (links : List Link) (i s : ℕ) → IsPlanned plan count links i s role.Source → IsSenderAt plan s
sender-planned plan count links i s h = search rules

-- What leads to a queue is a Sender, and what a Sender leads to is a queue.
source-of-queue : (nodes : List Node) (links : List Link) (s i : ℕ) → AreSound nodes links → role_at nodes i ≡ Some role.Queue → target s links ≡ Some i → role_at nodes s ≡ Some role.Source
source-of-queue nodes links s i sound at leads =
    let h = link-from (IsRight nodes) links s sound.right (target-used links s i leads) in
    let to : h.link.to ≡ i = same_Some h.link.to i (sym h.target ∙ leads) in
    source-role (role_at nodes s) (ap (λ f. is_source (role_at nodes f)) (sym h.from) ∙ h.has.kind ∙ ap (λ t. is_queue (role_at nodes t)) to ∙ ap is_queue at)

pub record LeadsToQueue (nodes : List Node) (links : List Link) (s : ℕ) : Type 0 where
  pub place : ℕ
  pub at : role_at nodes place ≡ Some role.Queue
  pub target : target s links ≡ Some place

queue-of-source : (nodes : List Node) (links : List Link) (s : ℕ) → AreSound nodes links → role_at nodes s ≡ Some role.Source → LeadsToQueue nodes links s
queue-of-source nodes links s sound at =
    let h = link-from (IsRight nodes) links s sound.right (sound.connected s role.Source at).output in
    record {
      place = h.link.to;
      at = queue-role (role_at nodes h.link.to) (sym h.has.kind ∙ ap (λ f. is_source (role_at nodes f)) h.from ∙ ap is_source at);
      target = h.target;
    }

-- the sources of each queue are Senders
pub queue-senders : (elements : List Element) (wires : List Wire) → fault_of elements wires ≡ None
    → (i : ℕ) (e : Planned) → slice_get (plan_of elements wires) i ≡ Some e → tree.is_queue e.class ≡ true → AllByRecursion (IsSenderAt (plan_of elements wires)) e.sources
queue-senders elements wires none i e at is =
    let count = length (all_known elements) in
    let links = links_of elements wires in
    let sound = sound-nodes elements wires none in
    let plan = is-plan elements wires in
    let role-there : role_at (nodes_of elements) i ≡ Some role.Queue =
    queue-role (role_at (nodes_of elements) i) (ap is_queue (node-at count links elements 0 i e at) ∙ sym (queue-class e.class) ∙ is) in
    let h = plan.at i role.Queue role-there in
    let same : h.element ≡ e = same_Some h.element e (sym h.at ∙ at) in
    subst (AllByRecursion (IsSenderAt (plan_of elements wires))) (sym h.sources ∙ ap (λ (p : Planned). p.sources) same)
    (all-filter (IsSenderAt (plan_of elements wires)) (is_connected links i) (range_with_len 0 count)
    (λ s connected. sender-planned (plan_of elements wires) count links s s (plan.at s role.Source (source-of-queue (nodes_of elements) links s i sound role-there (number-is i (target s links) connected)))))

-- where a number stands among those of a list
pub stands-filter : (p : ℕ → Bool) (s a n : ℕ) → p s ≡ true → a ≤ s → s < a + n → stands_in s (filter p (range_with_len a n)) ≡ true
stands-filter p s a zero is low high = absurd (omega arith)
stands-filter p s a (suc n) is low high = elim (cases_eq a s) [
  | inl same ↦ by_here (p a) (ap p same ∙ is) (eq-eqb a s same)
  | inr other ↦ by_later (p a) (stands-filter p s (a + 1) n is (omega arith) (omega arith))
]
  where
    by_here : (b : Bool) → b ≡ true → (a == s) ≡ true → stands_in s (if b then a ∷ filter p (range_with_len (a + 1) n) else filter p (range_with_len (a + 1) n)) ≡ true
    by_here b e here = search (rules, cases_eq, eq-eqb)

    by_later : (b : Bool) → stands_in s (filter p (range_with_len (a + 1) n)) ≡ true → stands_in s (if b then a ∷ filter p (range_with_len (a + 1) n) else filter p (range_with_len (a + 1) n)) ≡ true
    by_later b e = search (rules, cases_eq, eq-eqb)

filter-stands : (p : ℕ → Bool) (s : ℕ) (xs : List ℕ) → stands_in s (filter p xs) ≡ true → p s ≡ true
filter-stands p s [] e = absurd (cc)
filter-stands p s (x ∷ xs) e = search (rules, or_cases, eqb-true, (filter-stands p s xs))

map-stands : (f : ℕ → ℕ) (s a n : ℕ) → stands_in s (map f (range_with_len a n)) ≡ true → (k : ℕ) × (k < a + n) × (f k ≡ s)
map-stands f s a zero e = absurd (cc)
map-stands f s a (suc n) e = elim (or_cases (f a == s) (stands_in s (map f (range_with_len (a + 1) n))) e) [
  | inl same ↦ (a, omega arith, eqb-true (f a) s same)
  | inr more ↦ (let h = map-stands f s (a + 1) n more in let low : h.0 < a + 1 + n = h.1 in (h.0, omega arith, h.2))
]

-- A Sender is connected to one element, which is a queue.
pub record IsSentTo (plan : List Planned) (s : ℕ) : Type 0 where
  pub place : ℕ
  pub element : Planned
  pub at : slice_get plan place ≡ Some element
  pub is : tree.is_queue element.class ≡ true
  pub among : stands_in s element.sources ≡ true
  pub alone : (i : ℕ) (e : Planned) → slice_get plan i ≡ Some e → stands_in s e.sources ≡ true → i ≡ place

-- a Sender feeds no input
no-pull : (nodes : List Node) (links : List Link) (i s : ℕ) → role_at nodes s ≡ Some role.Source → Feeds nodes links i s → ⊥
no-pull nodes links i s at h = search (rules, same_Some, false≢true)

pub sender-sent : (elements : List Element) (wires : List Wire) → fault_of elements wires ≡ None → (s : ℕ) → IsSenderAt (plan_of elements wires) s → IsSentTo (plan_of elements wires) s
sender-sent elements wires none s from =
    let count = length (all_known elements) in
    let links = links_of elements wires in
    let nodes = nodes_of elements in
    let sound = sound-nodes elements wires none in
    let plan = is-plan elements wires in
    let source : role_at nodes s ≡ Some role.Source = node-at count links elements 0 s from.element from.at ∙ ap (λ c. Some (role_of c)) from.is in
    let q = queue-of-source nodes links s sound source in
    let h = plan.at q.place role.Queue q.at in
    let below : s < count = subst (λ n. s < n) (length-planned count links 0 (all_known elements)) (slice_get_within (plan_of elements wires) s from.element from.at) in
    record {
      place = q.place;
      element = h.element;
      at = h.at;
      is = queue-class h.element.class ∙ ap (λ r. is_queue (Some r)) h.role;
      among = ap (stands_in s) h.sources
          ∙ stands-filter (is_connected links q.place) s 0 count (ap (is_number q.place) q.target ∙ eq-eqb q.place q.place refl) (omega arith) (omega arith);
      alone = λ i e at stands. one count links nodes sound plan source q i e (node-at count links elements 0 i e at) at stands;
    }
  where
    one : (count : ℕ) (links : List Link) (nodes : List Node) → AreSound nodes links → IsPlanOf (plan_of elements wires) count nodes links → role_at nodes s ≡ Some role.Source
        → (q : LeadsToQueue nodes links s) (i : ℕ) (e : Planned) → role_at nodes i ≡ Some (role_of e.class) → slice_get (plan_of elements wires) i ≡ Some e → stands_in s e.sources ≡ true → i ≡ q.place
    one count links nodes sound plan source q i e there at stands =
        let h = plan.at i (role_of e.class) there in
        let same : h.element ≡ e = same_Some h.element e (sym h.at ∙ at) in
        let sources : e.sources ≡ sources_of count links i (role_of e.class) = ap (λ (p : Planned). p.sources) (sym same) ∙ h.sources in
        let among : stands_in s (sources_of count links i (role_of e.class)) ≡ true = ap (stands_in s) (sym sources) ∙ stands in
        elim (cases_Bool (is_queue (Some (role_of e.class)))) [
          | inl push ↦ same_Some i q.place (sym (number-is i (target s links) (filter-stands (is_connected links i) s (range_with_len 0 count)
              (ap (λ r. stands_in s (sources_of count links i r)) (sym (same_Some (role_of e.class) role.Queue (queue-role (Some (role_of e.class)) push))) ∙ among))) ∙ q.target)
          | inr pull ↦ (let at-input = map-stands (source_at links i) s 0 (inputs_of i (role_of e.class) links) (ap (stands_in s) (sym (pull-sources count links i (role_of e.class) pull)) ∙ among) in
              let low : at-input.0 < inputs_of i (role_of e.class) links = omega (arith, at-input.1) in
              absurd (no-pull nodes links i s source (subst (Feeds nodes links i) at-input.2 (fed nodes links i at-input.0 (role_of e.class) sound there pull low))))
        ]

-- no Sender stands twice among the sources of a queue
later-differ : (p : ℕ → Bool) (s a n : ℕ) → s < a → stands_in s (filter p (range_with_len a n)) ≡ false
later-differ p s a zero below = refl
later-differ p s a (suc n) below = search (rules, or_from, (later-differ p s (a + 1) n (omega arith)))

range-distinct : (p : ℕ → Bool) (a n : ℕ) → are_distinct (filter p (range_with_len a n)) ≡ true
range-distinct p a zero = refl
range-distinct p a (suc n) = search (rules, later-differ, (range-distinct p (a + 1) n))

pub queue-distinct : (elements : List Element) (wires : List Wire) (i : ℕ) (e : Planned) → slice_get (plan_of elements wires) i ≡ Some e → tree.is_queue e.class ≡ true
    → are_distinct e.sources ≡ true
queue-distinct elements wires i e at is =
    let count = length (all_known elements) in
    let links = links_of elements wires in
    let role-there : role_at (nodes_of elements) i ≡ Some role.Queue =
    queue-role (role_at (nodes_of elements) i) (ap is_queue (node-at count links elements 0 i e at) ∙ sym (queue-class e.class) ∙ is) in
    let plan = is-plan elements wires in
    let h = plan.at i role.Queue role-there in
    let same : h.element ≡ e = same_Some h.element e (sym h.at ∙ at) in
    ap are_distinct (ap (λ (p : Planned). p.sources) (sym same) ∙ h.sources) ∙ range-distinct (is_connected links i) 0 count
