-- The queues of a plan are within their limits, and its senders have rising numbers and send to its queues.
use Rattle.std.proofs.Common.{◌≡◌, ℕ, ◌+◌, ◌<◌, ◌==◌, zero, suc, Bool, true, false, if◌then◌else◌, List, [], ◌∷◌, length, map, Option, Some, option_map, slice_get, nat_lt, refl, sym, subst, ◌∙◌, add-one, add-zero, arith, eq-eqb, rules}
use Rattle.std.specs.List.{AllByRecursion, cons_option}
use Rattle.std.proofs.lemmas.Bool.{ltb-true, ltb-false, or_parts, false≢true}
use Rattle.std.proofs.lemmas.Option.{same_Some}
use Rattle.clk_packet.specs.Lists.{stands_in, are_distinct, AreRising}
use Rattle.clk_packet.proofs.Callers.Lists.{distinct-parts}
use Rattle.clk_syntax.specs.declared.node.Link.{Link}
use Rattle.clk_syntax.specs.Classes.{Class, sender}
use Rattle.clk_syntax.specs.Source.{Element}
use Rattle.clk_syntax.specs.Declarations.{class_of}
use Rattle.clk_syntax.specs.Reading.{elements_of, wires_of}
use Rattle.clk_tree.specs.declared.plan.parts.SenderSpec.{SenderSpec}
use Rattle.clk_tree.specs.Plan.{Planned, all_known, plan_of, Denotes, planned_from}
use Rattle.clk_tree.specs.inside.FromPlace.{senders_from, queues_from}
use Rattle.clk_tree.specs.PlanTree.{is_queue, queue_count}
use Rattle.clk_tree.specs.PlanParts.{queue_fed, sender_of, senders_of, number_of, queues_of, HasCapacity, HasNumber, SendsWithin}
use Rattle.clk_tree.specs.inside.ByNumber.{placed, by_number}
use Rattle.clk_tree.proofs.Sound.SoundClasses.{HasLimits, class-limits}
use Rattle.clk_tree.proofs.Sound.SoundNodes.{known_as}
use Rattle.clk_tree.proofs.Sound.SoundQueues.{IsSenderAt, sender-sent}
use Rattle.clk_tree.proofs.Sound.SoundSenders.{sender_numbers, senders-distinct}

-- each element of a plan is within the limits of its class
plan-limits : (count : ℕ) (links : List Link) (i : ℕ) (elements : List Element) → AllByRecursion (λ (e : Planned). HasLimits e.class) (planned_from count links i (all_known elements))
plan-limits count links i [] = tt
plan-limits count links i (x ∷ elements) = by_case (class_of x) (class-limits x) (plan-limits count links i elements) (plan-limits count links (i + 1) elements)
  where
    by_case : (o : Option Class) → ((class : Class) → o ≡ Some class → HasLimits class) → AllByRecursion (λ (e : Planned). HasLimits e.class) (planned_from count links i (all_known elements))
        → AllByRecursion (λ (e : Planned). HasLimits e.class) (planned_from count links (i + 1) (all_known elements))
        → AllByRecursion (λ (e : Planned). HasLimits e.class) (planned_from count links i (cons_option (option_map (known_as x) o) (all_known elements)))
    by_case o limits here later = search (rules, class-limits)

plan-within : (text : List ℕ) (plan : List Planned) → Denotes text plan → AllByRecursion (λ (e : Planned). HasLimits e.class) plan
plan-within text plan d = search (rules, plan-limits)

queues-within : (plan : List Planned) (i : ℕ) (rest : List Planned) → AllByRecursion (λ (e : Planned). HasLimits e.class) rest → AllByRecursion HasCapacity (queues_from plan i rest)
queues-within plan i [] limits = tt
queues-within plan i (e ∷ more) limits = search (rules, (queues-within plan (i + 1) more limits.1))

pub queues-capacities : (text : List ℕ) (plan : List Planned) → Denotes text plan → AllByRecursion HasCapacity (queues_of plan)
queues-capacities text plan d = queues-within plan 0 plan (plan-within text plan d)

-- what is so of senders is so of them in order of their numbers
all-placed : (P : SenderSpec → Type 0) (s : SenderSpec) (senders : List SenderSpec) → P s → AllByRecursion P senders → AllByRecursion P (placed s senders)
all-placed P s [] one all = (one, tt)
all-placed P s (t ∷ more) one all = search (rules, (all-placed P s more one all.1))

all-by_number : (P : SenderSpec → Type 0) (senders : List SenderSpec) → AllByRecursion P senders → AllByRecursion P (by_number senders)
all-by_number P [] all = tt
all-by_number P (s ∷ more) all = all-placed P s (by_number more) all.0 (all-by_number P more all.1)

-- what is so of the numbers of senders
all-numbers : (P : ℕ → Type 0) (senders : List SenderSpec) → AllByRecursion (λ (s : SenderSpec). P s.number) senders → AllByRecursion P (map number_of senders)
all-numbers P [] all = tt
all-numbers P (s ∷ more) all = (all.0, all-numbers P more all.1)

numbers-all : (P : ℕ → Type 0) (senders : List SenderSpec) → AllByRecursion P (map number_of senders) → AllByRecursion (λ (s : SenderSpec). P s.number) senders
numbers-all P [] all = tt
numbers-all P (s ∷ more) all = (all.0, numbers-all P more all.1)

all-above : (a b : ℕ) (ns : List ℕ) → a < b → AllByRecursion (λ m. b < m) ns → AllByRecursion (λ m. a < m) ns
all-above a b [] less all = tt
all-above a b (n ∷ ns) less all = (let above = all.0 in omega (arith, above), all-above a b ns less all.1)

-- no sender among these has this number
abbrev Lacks : ℕ → List SenderSpec → Type 0
Lacks n senders = AllByRecursion (λ (s : SenderSpec). s.number ≡ n → ⊥) senders

lacks : (n : ℕ) (senders : List SenderSpec) → stands_in n (map number_of senders) ≡ false → Lacks n senders
lacks n [] none = tt
lacks n (s ∷ more) none =
    let parts = or_parts (s.number == n) (stands_in n (map number_of more)) none in
    (λ same. false≢true (sym parts.0 ∙ eq-eqb s.number n same), lacks n more parts.1)

rising-placed : (s : SenderSpec) (senders : List SenderSpec) → AreRising (map number_of senders) → Lacks s.number senders → AreRising (map number_of (placed s senders))
rising-placed s [] rising apart = (tt, tt)
rising-placed s (t ∷ more) rising apart = by_test (nat_lt s.number t.number) refl (rising-placed s more rising.1 apart.1)
  where
    by_test : (b : Bool) → nat_lt s.number t.number ≡ b → AreRising (map number_of (placed s more)) → AreRising (map number_of (if b then s ∷ t ∷ more else t ∷ placed s more))
    by_test b is later = search (rules, ltb-true, all-above, ltb-false, all-numbers, all-placed, numbers-all)

rising-by_number : (senders : List SenderSpec) → are_distinct (map number_of senders) ≡ true → AreRising (map number_of (by_number senders))
rising-by_number [] distinct = tt
rising-by_number (s ∷ more) distinct =
    let parts = distinct-parts s.number (map number_of more) distinct in
    rising-placed s (by_number more) (rising-by_number more parts.1)
    (all-by_number (λ (t : SenderSpec). t.number ≡ s.number → ⊥) more (lacks s.number more parts.0))

numbers-from : (plan : List Planned) (i : ℕ) (rest : List Planned) → map number_of (senders_from plan i rest) ≡ sender_numbers rest
numbers-from plan i [] = refl
numbers-from plan i (e ∷ rest) = search (rules, (numbers-from plan (i + 1) rest))

pub senders-rising : (text : List ℕ) (plan : List Planned) → Denotes text plan → AreRising (map number_of (senders_of plan))
senders-rising text plan d = search (rules, rising-by_number, numbers-from, senders-distinct)

queues-count : (plan : List Planned) (i : ℕ) (rest : List Planned) → length (queues_from plan i rest) ≡ queue_count rest
queues-count plan i [] = refl
queues-count plan i (e ∷ more) = search (rules, add-one, (queues-count plan (i + 1) more))

-- an element that is connected to a queue of a plan is connected to one of so many
fed-more : (is feeds : Bool) (fed count : ℕ) → fed < count → (if is then (if feeds then 0 else fed + 1) else fed) < (if is then count + 1 else count)
fed-more is feeds fed count below = search rules

fed-within : (plan : List Planned) (i s : ℕ) (e : Planned) → slice_get plan i ≡ Some e → is_queue e.class ≡ true → stands_in s e.sources ≡ true → queue_fed plan s < queue_count plan
fed-within [] i s e at is feeds = absurd (cc)
fed-within (x ∷ plan) zero s e at is feeds = search (rules, same_Some, fed-more)
fed-within (x ∷ plan) (suc i) s e at is feeds = fed-more (is_queue x.class) (stands_in s x.sources) (queue_fed plan s) (queue_count plan) (fed-within plan i s e at is feeds)

-- the senders among the elements from a place on
from-wired : (plan : List Planned) (i : ℕ) (rest : List Planned) → ((s : ℕ) → IsSenderAt plan s → queue_fed plan s < queue_count plan)
    → ((j : ℕ) (e : Planned) → slice_get rest j ≡ Some e → slice_get plan (i + j) ≡ Some e) → AllByRecursion (SendsWithin (queue_count plan)) (senders_from plan i rest)
from-wired plan i [] each at = tt
from-wired plan i (e ∷ rest) each at =
    by_class e.class refl (from-wired plan (i + 1) rest each (λ j x is. let step : i + suc j ≡ i + 1 + j = omega arith in subst (λ k. slice_get plan k ≡ Some x) step (at (suc j) x is)))
  where
    by_class : (class : Class) → e.class ≡ class → AllByRecursion (SendsWithin (queue_count plan)) (senders_from plan (i + 1) rest)
        → AllByRecursion (SendsWithin (queue_count plan)) (cons_option (sender_of plan i class) (senders_from plan (i + 1) rest))
    by_class (sender n) is later =
        (each i (record { element = e; number = n; at = subst (λ k. slice_get plan k ≡ Some e) (add-zero i) (at 0 e refl); is = is }), later)
    by_class class is later = later

pub senders-wired : (text : List ℕ) (plan : List Planned) → Denotes text plan → AllByRecursion (SendsWithin (length (queues_of plan))) (senders_of plan)
senders-wired text plan d =
    subst (λ count. AllByRecursion (SendsWithin count) (senders_of plan)) (sym (queues-count plan 0 plan))
    (all-by_number (SendsWithin (queue_count plan)) (senders_from plan 0 plan) (from-wired plan 0 plan sent (λ j e at. subst (λ k. slice_get plan k ≡ Some e) (search rules) at)))
  where
    sent : (s : ℕ) → IsSenderAt plan s → queue_fed plan s < queue_count plan
    sent = subst (λ p. (s : ℕ) → IsSenderAt p s → queue_fed p s < queue_count p) (sym d.is) (λ s at.
        let to = sender-sent (elements_of text d.faultless.statements) (wires_of text d.faultless.statements) d.faultless.sound s at in
        fed-within (plan_of (elements_of text d.faultless.statements) (wires_of text d.faultless.statements)) to.place s to.element to.at to.is to.among)

-- the number of each sender is within the limits
senders-within : (plan : List Planned) (i : ℕ) (rest : List Planned) → AllByRecursion (λ (e : Planned). HasLimits e.class) rest → AllByRecursion HasNumber (senders_from plan i rest)
senders-within plan i [] limits = tt
senders-within plan i (e ∷ more) limits = search (rules, (senders-within plan (i + 1) more limits.1))

pub senders-numbers : (text : List ℕ) (plan : List Planned) → Denotes text plan → AllByRecursion HasNumber (senders_of plan)
senders-numbers text plan d = all-by_number HasNumber (senders_from plan 0 plan) (senders-within plan 0 plan (plan-within text plan d))
