-- In a plan without a fault each connection to an element, by its sources, is one of the text, and each output stands once among the
-- sources.
use Rattle.std.proofs.lemmas.Grind.{common_steps}
use Rattle.std.proofs.Common.{◌≡◌, ℕ, ◌+◌, ◌<◌, ◌==◌, ◌||◌, zero, suc, Bool, true, false, List, [], ◌∷◌, ◌++◌, length, map, filter, Option, Some, None, slice_get, inl, inr, refl, sym, ap, subst, ◌∙◌, arith, eqb-true, unwrap_or, rules}
use Rattle.std.specs.List.{AllByRecursion, range_with_len}
use Rattle.std.proofs.lemmas.Bool.{and_parts, false_from_ne_true, cases_Bool, false≢true}
use Rattle.std.proofs.lemmas.Option.{same_Some}
use Rattle.clk_sched.proofs.Callers.Lists.{all-weaker}
use Rattle.clk_packet.specs.Lists.{stands_in, are_distinct}
use Rattle.clk_packet.proofs.Callers.Lists.{distinct-parts}
use Rattle.clk_syntax.specs.declared.naming.class.Role.{Role}
use Rattle.clk_syntax.specs.declared.naming.class.Role.TheVariants as role
use Rattle.clk_syntax.specs.declared.node.Node.{Node}
use Rattle.clk_syntax.specs.declared.node.Link.{Link}
use Rattle.clk_syntax.specs.Source.{Element, Wire}
use Rattle.clk_syntax.specs.Classes.{role_of}
use Rattle.clk_syntax.specs.Ports.{role_at, is_queue, has_output, has_input, uses_output, uses_input, inputs_of, target, next}
use Rattle.clk_syntax.specs.Faults.{nodes_of, links_of, fault_of}
use Rattle.clk_tree.specs.Plan.{Planned, source_at, is_connected, all_known, plan_of}
use Rattle.clk_tree.specs.PlanTree as tree
use Rattle.clk_tree.proofs.Distinct.DistinctNumbers.{in-all, stands-in}
use Rattle.clk_tree.proofs.Distinct.DistinctPlans.{Once}
use Rattle.clk_tree.proofs.Rewired.SameWiring.{Occurs}
use Rattle.clk_tree.proofs.Sound.SoundChecks.{IsRight}
use Rattle.clk_tree.proofs.Sound.SoundNodes.{queue-class, node-at}
use Rattle.clk_tree.proofs.Sound.SoundParents.{has-inputs, sources-lead, sources-distinct}
use Rattle.clk_tree.proofs.Sound.SoundPaths.{AreSound, input-used}
use Rattle.clk_tree.proofs.Sound.SoundPlans.{is-plan, sound-nodes}
use Rattle.clk_tree.proofs.Sound.SoundQueues.{number-is, queue-role, queue-distinct, all-filter}
use Rattle.clk_tree.proofs.Rewired.RewiredLinks.{source_link, input_links, class_links, plan_links, class-links, Each, each-element, plan-all, HasElement, HasEnds}

-- what the ports of a connection are that is right
output-zero : (o : Option Role) (output : ℕ) → has_output o output ≡ true → output ≡ 0
output-zero o output has = search (rules, eqb-true)

pub right-output : (nodes : List Node) (c : Link) → IsRight nodes c → c.output ≡ 0
right-output nodes c right = output-zero (role_at nodes c.from) c.output right.output

pub queue-input : (nodes : List Node) (c : Link) → IsRight nodes c → role_at nodes c.to ≡ Some role.Queue → c.input ≡ 0
queue-input nodes c right queue = eqb-true c.input 0 (ap (λ o. has_input o c.input) (sym queue) ∙ right.input)

-- the first connection to an input is one
input-occurs : (nodes : List Node) (links : List Link) (i input : ℕ) → AllByRecursion (IsRight nodes) links → uses_input i input links ≡ true
    → Occurs (source_link i input (source_at links i input)) links
input-occurs nodes [] i input right uses = absurd (cc)
input-occurs nodes (c ∷ links) i input right uses = search (rules, and_parts, right-output, eqb-true, (input-occurs nodes links i))

-- and so is the first connection from an element that leads to a queue
target-occurs : (nodes : List Node) (links : List Link) (i s : ℕ) → AllByRecursion (IsRight nodes) links → role_at nodes i ≡ Some role.Queue → target s links ≡ Some i
    → Occurs (source_link i 0 s) links
target-occurs nodes [] i s right queue leads = absurd (cc)
target-occurs nodes (c ∷ links) i s right queue leads = search (rules, same_Some, eqb-true, right-output, queue-input, (target-occurs nodes links i s right.1 queue))

target-next : (links : List Link) (s i : ℕ) → target s links ≡ Some i → next links s ≡ i
target-next links s i leads = ap (λ o. unwrap_or o s) leads

-- the queue at a place of a plan, and what is connected to it
pub record HasSenders (nodes : List Node) (links : List Link) (count i : ℕ) (e : Planned) : Type 0 where
  pub role : role_at nodes i ≡ Some role.Queue
  pub sources : e.sources ≡ filter (is_connected links i) (range_with_len 0 count)

pub has-senders : (elements : List Element) (wires : List Wire) (i : ℕ) (e : Planned) → slice_get (plan_of elements wires) i ≡ Some e → tree.is_queue e.class ≡ true
    → HasSenders (nodes_of elements) (links_of elements wires) (length (all_known elements)) i e
has-senders elements wires i e at is =
    let there = queue-role (role_at (nodes_of elements) i) (ap is_queue (node-at (length (all_known elements)) (links_of elements wires) elements 0 i e at) ∙ sym (queue-class e.class) ∙ is) in
    let plan = is-plan elements wires in
    let h = plan.at i role.Queue there in
    let same : h.element ≡ e = same_Some h.element e (sym h.at ∙ at) in
    record { role = there; sources = ap (λ (p : Planned). p.sources) (sym same) ∙ h.sources }

inputs-all : (P : Link → Type 0) (i : ℕ) (f : ℕ → ℕ) (a n : ℕ) → ((k : ℕ) → k < a + n → P (source_link i k (f k))) → AllByRecursion P (input_links i a (map f (range_with_len a n)))
inputs-all P i f a zero each = tt
inputs-all P i f a (suc n) each = (each a (omega arith), inputs-all P i f (a + 1) n (λ k below. each k (omega arith)))

sent-all : (P : Link → Type 0) (i : ℕ) (p : ℕ → Bool) (xs : List ℕ) → ((s : ℕ) → p s ≡ true → P (source_link i 0 s)) → AllByRecursion P (map (source_link i 0) (filter p xs))
sent-all P i p [] each = tt
sent-all P i p (x ∷ xs) each = search (rules, (sent-all P i p xs each))

-- each connection to an element is one of the text
element-came : (elements : List Element) (wires : List Wire) → fault_of elements wires ≡ None → (i : ℕ) (e : Planned) → slice_get (plan_of elements wires) i ≡ Some e
    → AllByRecursion (λ c. Occurs c (links_of elements wires)) (class_links i e.sources e.class)
element-came elements wires none i e at =
    let sound = sound-nodes elements wires none in
    class-links (AllByRecursion (λ c. Occurs c (links_of elements wires))) i e.sources e.class (push sound) (pull sound)
  where
    push : AreSound (nodes_of elements) (links_of elements wires) → tree.is_queue e.class ≡ true → AllByRecursion (λ c. Occurs c (links_of elements wires)) (map (source_link i 0) e.sources)
    push sound is =
        let h = has-senders elements wires i e at is in
        subst (λ ss. AllByRecursion (λ c. Occurs c (links_of elements wires)) (map (source_link i 0) ss)) (sym h.sources)
        (sent-all (λ c. Occurs c (links_of elements wires)) i (is_connected (links_of elements wires) i) (range_with_len 0 (length (all_known elements)))
        (λ s to. target-occurs (nodes_of elements) (links_of elements wires) i s sound.right h.role (number-is i (target s (links_of elements wires)) to)))

    pull : AreSound (nodes_of elements) (links_of elements wires) → tree.is_queue e.class ≡ false → AllByRecursion (λ c. Occurs c (links_of elements wires)) (input_links i 0 e.sources)
    pull sound other =
        let h = has-inputs elements wires i e at other in
        let n = inputs_of i (role_of e.class) (links_of elements wires) in
        subst (λ ss. AllByRecursion (λ c. Occurs c (links_of elements wires)) (input_links i 0 ss)) (sym h.sources)
        (inputs-all (λ c. Occurs c (links_of elements wires)) i (source_at (links_of elements wires) i) 0 n
        (λ k below. input-occurs (nodes_of elements) (links_of elements wires) i k sound.right
        (input-used i n k (links_of elements wires) (sound.connected i (role_of e.class) h.role).inputs (omega arith))))

pub plan-came : (elements : List Element) (wires : List Wire) → fault_of elements wires ≡ None → AllByRecursion (λ c. Occurs c (links_of elements wires)) (plan_links 0 (plan_of elements wires))
plan-came elements wires none = search (rules, plan-all, each-element, element-came)

-- Both ends of a connection that is right are elements of the plan.
end-there : (elements : List Element) (wires : List Wire) (i : ℕ) (o : Option Role) → role_at (nodes_of elements) i ≡ o → (o ≡ None → ⊥) → HasElement (plan_of elements wires) i
end-there elements wires i None is there = absurd (there refl)
end-there elements wires i (Some r) is there =
    let plan = is-plan elements wires in
    let h = plan.at i r is in
    (h.element, h.at)

no-output : (output : ℕ) (o : Option Role) → has_output o output ≡ true → o ≡ None → ⊥
no-output output o has none = false≢true (ap (λ r. has_output r output) (sym none) ∙ has)

no-input : (input : ℕ) (o : Option Role) → has_input o input ≡ true → o ≡ None → ⊥
no-input input o has none = false≢true (ap (λ r. has_input r input) (sym none) ∙ has)

pub right-ends : (elements : List Element) (wires : List Wire) (c : Link) → IsRight (nodes_of elements) c → HasEnds (plan_of elements wires) c
right-ends elements wires c right = (
  end-there elements wires c.from (role_at (nodes_of elements) c.from) refl (no-output c.output (role_at (nodes_of elements) c.from) right.output),
  end-there elements wires c.to (role_at (nodes_of elements) c.to) refl (no-input c.input (role_at (nodes_of elements) c.to) right.input),
)

occurs-ends : (elements : List Element) (wires : List Wire) (c : Link) (links : List Link) → AllByRecursion (IsRight (nodes_of elements)) links → Occurs c links → HasEnds (plan_of elements wires) c
occurs-ends elements wires c [] right among = absurd among
occurs-ends elements wires c (d ∷ links) right (inl here) =
    let h = right-ends elements wires d right.0 in
    (subst (HasElement (plan_of elements wires)) (sym here.from) h.0, subst (HasElement (plan_of elements wires)) (sym here.to) h.1)
occurs-ends elements wires c (d ∷ links) right (inr later) = occurs-ends elements wires c links right.1 later

pub plan-ends : (elements : List Element) (wires : List Wire) → fault_of elements wires ≡ None → AllByRecursion (HasEnds (plan_of elements wires)) (plan_links 0 (plan_of elements wires))
plan-ends elements wires none =
    let sound = sound-nodes elements wires none in
    all-weaker (λ c. Occurs c (links_of elements wires)) (HasEnds (plan_of elements wires)) (plan_links 0 (plan_of elements wires))
    (λ c among. occurs-ends elements wires c (links_of elements wires) sound.right among) (plan-came elements wires none)

-- Each output is used once: the sources of an element use theirs once, and lead to it.
inputs-use : (i s input : ℕ) (xs : List ℕ) → uses_output s (input_links i input xs) ≡ stands_in s xs
inputs-use i s input [] = refl
inputs-use i s input (x ∷ xs) = ap (λ b. (x == s) || b) (inputs-use i s (input + 1) xs)

sent-use : (i s : ℕ) (xs : List ℕ) → uses_output s (map (source_link i 0) xs) ≡ stands_in s xs
sent-use i s [] = refl
sent-use i s (x ∷ xs) = ap (λ b. (x == s) || b) (sent-use i s xs)

inputs-once : (i input : ℕ) (xs : List ℕ) → are_distinct xs ≡ true → Once (input_links i input xs)
inputs-once i input [] distinct = tt
inputs-once i input (x ∷ xs) distinct =
    let parts = distinct-parts x xs distinct in
    (inputs-use i x (input + 1) xs ∙ parts.0, inputs-once i (input + 1) xs parts.1)

sent-once : (i : ℕ) (xs : List ℕ) → are_distinct xs ≡ true → Once (map (source_link i 0) xs)
sent-once i [] distinct = tt
sent-once i (x ∷ xs) distinct =
    let parts = distinct-parts x xs distinct in
    (sent-use i x xs ∙ parts.0, sent-once i xs parts.1)

inputs-from : (P : ℕ → Type 0) (i input : ℕ) (xs : List ℕ) → AllByRecursion P xs → AllByRecursion (λ (c : Link). P c.from) (input_links i input xs)
inputs-from P i input [] all = tt
inputs-from P i input (x ∷ xs) all = (all.0, inputs-from P i (input + 1) xs all.1)

sent-from : (P : ℕ → Type 0) (i : ℕ) (xs : List ℕ) → AllByRecursion P xs → AllByRecursion (λ (c : Link). P c.from) (map (source_link i 0) xs)
sent-from P i [] all = tt
sent-from P i (x ∷ xs) all = (all.0, sent-from P i xs all.1)

unused-append : (s : ℕ) (xs ys : List Link) → uses_output s xs ≡ false → uses_output s ys ≡ false → uses_output s (xs ++ ys) ≡ false
unused-append s xs ys a b = search (rules, common_steps)

once-append : (xs ys : List Link) → Once xs → Once ys → AllByRecursion (λ (c : Link). uses_output c.from ys ≡ false) xs → Once (xs ++ ys)
once-append [] ys a b apart = b
once-append (c ∷ xs) ys a b apart = (unused-append c.from xs ys a.0 apart.0, once-append xs ys a.1 b apart.1)

-- the sources of the element at a place lead there, and none stands twice
pub record LeadTo (links : List Link) (i : ℕ) (e : Planned) : Type 0 where
  pub all : AllByRecursion (λ s. next links s ≡ i) e.sources
  pub distinct : are_distinct e.sources ≡ true

no-source : (links : List Link) (i s : ℕ) (e : Planned) → LeadTo links i e → next links s < i → stands_in s e.sources ≡ false
no-source links i s e leads below = false_from_ne_true (stands_in s e.sources) (λ stands. other (in-all (λ t. next links t ≡ i) s e.sources leads.all (stands-in s e.sources stands)))
  where
    other : next links s ≡ i → ⊥
    other to = omega arith

not-later : (links : List Link) (i s : ℕ) (plan : List Planned) → Each (LeadTo links) i plan → next links s < i → uses_output s (plan_links i plan) ≡ false
not-later links i s [] each below = refl
not-later links i s (e ∷ more) each below =
    unused-append s (class_links i e.sources e.class) (plan_links (i + 1) more)
    (class-links (λ ls. uses_output s ls ≡ false) i e.sources e.class (λ is. sent-use i s e.sources ∙ none) (λ is. inputs-use i s 0 e.sources ∙ none))
    (not-later links (i + 1) s more each.1 (omega arith))
  where
    none : stands_in s e.sources ≡ false
    none = no-source links i s e each.0 below

once-from : (links : List Link) (i : ℕ) (plan : List Planned) → Each (LeadTo links) i plan → Once (plan_links i plan)
once-from links i [] each = tt
once-from links i (e ∷ more) each = search (rules, once-append, class-links, sent-once, inputs-once, sent-from, inputs-from, all-weaker, not-later, (once-from links (i + 1) more each.1))

element-leads : (elements : List Element) (wires : List Wire) → fault_of elements wires ≡ None → (i : ℕ) (e : Planned) → slice_get (plan_of elements wires) i ≡ Some e
    → LeadTo (links_of elements wires) i e
element-leads elements wires none i e at = elim (cases_Bool (tree.is_queue e.class)) [
  | inl is ↦ (let h = has-senders elements wires i e at is in record {
    all = subst (AllByRecursion (λ s. next (links_of elements wires) s ≡ i)) (sym h.sources)
        (all-filter (λ s. next (links_of elements wires) s ≡ i) (is_connected (links_of elements wires) i) (range_with_len 0 (length (all_known elements)))
        (λ s to. target-next (links_of elements wires) s i (number-is i (target s (links_of elements wires)) to)));
    distinct = queue-distinct elements wires i e at is;
  })
  | inr other ↦ record { all = sources-lead elements wires none i e at other; distinct = sources-distinct elements wires none i e at other }
]

pub plan-once : (elements : List Element) (wires : List Wire) → fault_of elements wires ≡ None → Once (plan_links 0 (plan_of elements wires))
plan-once elements wires none =
    once-from (links_of elements wires) 0 (plan_of elements wires) (each-element (LeadTo (links_of elements wires)) (plan_of elements wires) (element-leads elements wires none))
