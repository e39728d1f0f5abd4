-- The senders of a plan's queues: none sends to two queues, nor to two devices.
use Rattle.std.proofs.Common.{◌≡◌, ℕ, zero, suc, ◌+◌, ◌≤◌, ◌==◌, inl, inr, Bool, true, true≢false, List, [], ◌∷◌, ◌++◌, length, map, take, drop, filter, refl, sym, ap, subst, add-one, arith, if◌then◌else◌, rules}
use Rattle.std.proofs.lemmas.Grind.{common_steps}
use Rattle.std.proofs.lemmas.Bool.Decides.{nat_tests}
use Rattle.std.specs.List.{flat_map, range_with_len}
use Rattle.std.proofs.lemmas.Bool.{eqb-true}
use Rattle.clk_packet.specs.Lists.{stands_in, are_distinct, AreRising}
use Rattle.clk_tree.specs.declared.plan.parts.SenderSpec.{SenderSpec}
use Rattle.clk_tree.specs.Plan.{Planned}
use Rattle.clk_tree.specs.PlanTree.{is_queue, queue_count}
use Rattle.clk_tree.specs.PlanParts.{Queued, number_of, senders_of, queues_of}
use Rattle.clk_tree.proofs.Callers.SharedQueues.{queues_from, senders_to}
use Rattle.clk_packet.proofs.Callers.Lists.{stands-left, stands-right, stands-either, rising-distinct}
use Rattle.clk_drain.proofs.Plans.Apart.{not-both, apart-parts, apart-joined}

-- Senders that some things have, and those that some of the things have.
filtered-has : {X : Type 0} (f : X → List ℕ) (test : X → Bool) (xs : List X) (s : ℕ) → stands_in s (flat_map f (filter test xs)) ≡ true → stands_in s (flat_map f xs) ≡ true
filtered-has f test [] s h = h
filtered-has {X} f test (x ∷ xs) s h = search (rules, stands-either, stands-left, stands-right, (filtered-has f test xs s))

pub apart-filtered : {X : Type 0} (f : X → List ℕ) (test : X → Bool) (xs : List X) → are_distinct (flat_map f xs) ≡ true → are_distinct (flat_map f (filter test xs)) ≡ true
apart-filtered f test [] apart = refl
apart-filtered {X} f test (x ∷ xs) apart = search (rules, apart-parts, apart-joined, not-both, filtered-has, (apart-filtered f test xs))

-- those of one kind
abbrev of_kind : {X : Type 0} → (X → ℕ) → List X → ℕ → List X
of_kind {X} kind xs d = filter (λ (x : X). kind x == d) xs

-- A sender is had by things of one kind alone.
one-kind : {X : Type 0} (f : X → List ℕ) (kind : X → ℕ) (xs : List X) (s c d : ℕ) → are_distinct (flat_map f xs) ≡ true → stands_in s (flat_map f (of_kind kind xs c)) ≡ true → stands_in s (flat_map f (of_kind kind xs d)) ≡ true → c ≡ d
one-kind f kind [] s c d apart h k = absurd (true≢false (sym h))
one-kind {X} f kind (x ∷ xs) s c d apart h k = search (rules, not-both, filtered-has, eqb-true, stands-either, (one-kind f kind xs s c d (apart-parts (f x) (flat_map f xs) apart).1))

-- Lists by number, of which no two have a sender in common, stand apart when they are joined.
in-range : (g : ℕ → List ℕ) (first n s : ℕ) → stands_in s (flat_map g (range_with_len first n)) ≡ true → (d : ℕ) × (first ≤ d) × (stands_in s (g d) ≡ true)
in-range g first zero s h = absurd (true≢false (sym h))
in-range g first (suc n) s h = elim (stands-either s (g first) (flat_map g (range_with_len (first + 1) n)) h) [
  | inl here ↦ (first, omega arith, here)
  | inr later ↦ let rest = in-range g (first + 1) n s later in (rest.0, (let le = rest.1 in omega (arith, le)), rest.2)
]

range-apart : (g : ℕ → List ℕ) (first n : ℕ) → ((d : ℕ) → are_distinct (g d) ≡ true) → ((s c d : ℕ) → stands_in s (g c) ≡ true → stands_in s (g d) ≡ true → c ≡ d) → are_distinct (flat_map g (range_with_len first n)) ≡ true
range-apart g first zero each one = refl
range-apart g first (suc n) each one = search (rules, apart-joined, in-range, (range-apart g (first + 1) n each one))

-- Things that have no sender in common, taken kind by kind.
pub apart-by-kind : {X : Type 0} (f : X → List ℕ) (kind : X → ℕ) (xs : List X) (first n : ℕ) → are_distinct (flat_map f xs) ≡ true → are_distinct (flat_map (λ (d : ℕ). flat_map f (filter (λ (x : X). kind x == d) xs)) (range_with_len first n)) ≡ true
apart-by-kind {X} f kind xs first n apart = search (rules, range-apart, apart-filtered, one-kind)

-- a sender's own number, as a list
abbrev own : SenderSpec → List ℕ
own s = number_of s ∷ []

own-are : (senders : List SenderSpec) → flat_map own senders ≡ map number_of senders
own-are senders = search rules

-- No sender sends to two queues.
queues-numbered : (senders : List SenderSpec) (first n : ℕ) → AreRising (map number_of senders) → are_distinct (flat_map (senders_to senders) (range_with_len first n)) ≡ true
queues-numbered senders first n h =
    subst (λ (g : ℕ → List ℕ). are_distinct (flat_map g (range_with_len first n)) ≡ true) (λ i d. own-are (filter (λ (s : SenderSpec). s.queue == d) senders) i)
    (search (rules, apart-by-kind, own-are, rising-distinct))

-- The queues of a plan have the senders that send to their numbers.
abbrev senders_in : List Queued → List (List ℕ)
senders_in queues = map (λ (q : Queued). q.senders) queues

-- how many queues stand before the next place
count-more : (place : ℕ) (plan : List Planned) (e : Planned) (more : List Planned) → drop place plan ≡ e ∷ more
    → queue_count (take (suc place) plan) ≡ (if is_queue e.class then queue_count (take place plan) + 1 else queue_count (take place plan))
count-more zero plan e more is = search rules
count-more (suc place) [] e more is = absurd (cc)
count-more (suc place) (p ∷ plan) e more is = search (rules, (count-more place plan e more is))

drop-later : (place : ℕ) (plan : List Planned) (e : Planned) (more : List Planned) → drop place plan ≡ e ∷ more → drop (suc place) plan ≡ more
drop-later zero plan e more is = search rules
drop-later (suc place) [] e more is = absurd (cc)
drop-later (suc place) (p ∷ plan) e more is = drop-later place plan e more is

queues-senders : (plan : List Planned) (place : ℕ) (elements : List Planned) → drop place plan ≡ elements
    → senders_in (queues_from plan place elements) ≡ map (senders_to (senders_of plan)) (range_with_len (queue_count (take place plan)) (length (queues_from plan place elements)))
queues-senders plan place [] is = refl
queues-senders plan place (e ∷ more) is = grind (arith, common_steps, nat_tests, (add-one place), (count-more place plan e more), (drop-later place plan e more is), (queues-senders plan (place + 1) more))

joined-map : {X : Type 0} (f : X → List ℕ) (xs : List X) → flat_map f xs ≡ flat_map (λ (ns : List ℕ). ns) (map f xs)
joined-map f [] = refl
joined-map f (x ∷ xs) = ap (λ rest. f x ++ rest) (joined-map f xs)

pub queues-apart : (plan : List Planned) → AreRising (map number_of (senders_of plan)) → are_distinct (flat_map (λ (q : Queued). q.senders) (queues_of plan)) ≡ true
queues-apart plan h =
    let queues : List Queued = queues_of plan in
    let numbers : List ℕ = range_with_len 0 (length queues) in
    let same : flat_map (λ (q : Queued). q.senders) queues ≡ flat_map (senders_to (senders_of plan)) numbers =
    search (rules, joined-map, queues-senders) in
    search (rules, queues-numbered)
