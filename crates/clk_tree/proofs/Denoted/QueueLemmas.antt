-- The queue of a number, and the place at which it stands.
use Rattle.std.proofs.Common.{◌≡◌, ℕ, ◌+◌, zero, suc, Bool, true, false, if◌then◌else◌, List, [], ◌∷◌, take, Option, Some, slice_get, refl, sym, ap, ◌∙◌, add-one, add-zero, zero-add, rules}
use Rattle.std.specs.List.{cons_option}
use Rattle.std.proofs.lemmas.Bool.{false≢true}
use Rattle.std.proofs.lemmas.Option.{same_Some}
use Rattle.clk_syntax.specs.Classes.{Class, queue}
use Rattle.clk_tree.specs.Plan.{Planned}
use Rattle.clk_tree.specs.PlanTree.{is_queue, queue_count, queue_number}
use Rattle.clk_tree.specs.inside.PlanTree.{is_queue_at, number_if}
use Rattle.clk_tree.specs.PlanPaths.{device_of}
use Rattle.clk_tree.specs.PlanParts.{Queued, queue_of, queues_of}
use Rattle.clk_tree.specs.inside.FromPlace.{queues_from}
use Rattle.clk_tree.proofs.Sound.SoundChecks.{at-more}
use Rattle.clk_tree.proofs.Distinct.DistinctQueues.{number-of}

numbered : (n q : ℕ) (o : Option Planned) → is_queue_at o ≡ true → n ≡ q → number_if n o ≡ Some q
numbered n q o is e = search (rules, false≢true)

number-more : (e : Planned) (more : List Planned) (j q : ℕ) (b : Bool) → is_queue e.class ≡ b → queue_number more j ≡ Some q → queue_number (e ∷ more) (suc j) ≡ Some (if b then suc q else q)
number-more e more j q b is h = search (rules, number-of, numbered, add-one)

-- the place of a queue among the elements from a place on
record IsAmong (plan : List Planned) (i : ℕ) (rest : List Planned) (q : ℕ) (r : Queued) : Type 0 where
  place : ℕ
  number : queue_number rest place ≡ Some q
  device : r.device ≡ device_of plan (i + place)

among-more : (plan : List Planned) (i : ℕ) (e : Planned) (more : List Planned) (q : ℕ) (r : Queued) (b : Bool) → is_queue e.class ≡ b → IsAmong plan (i + 1) more q r
    → IsAmong plan i (e ∷ more) (if b then suc q else q) r
among-more plan i e more q r b is h = record {
  place = suc h.place;
  number = number-more e more h.place q b is h.number;
  device = h.device ∙ ap (device_of plan) (at-more i h.place);
}

queue-among : (plan : List Planned) (i : ℕ) (rest : List Planned) (q : ℕ) (r : Queued) → slice_get (queues_from plan i rest) q ≡ Some r → IsAmong plan i rest q r
queue-among plan i [] q r at = absurd (cc)
queue-among plan i (e ∷ more) q r at = by_class e.class refl q at (λ n. queue-among plan (i + 1) more n r)
  where
    by_class : (class : Class) → e.class ≡ class → (q : ℕ) → slice_get (cons_option (queue_of plan i class) (queues_from plan (i + 1) more)) q ≡ Some r
        → ((n : ℕ) → slice_get (queues_from plan (i + 1) more) n ≡ Some r → IsAmong plan (i + 1) more n r) → IsAmong plan i (e ∷ more) q r
    by_class (queue kind capacity) is zero at later = record {
      place = 0;
      number = numbered 0 0 (Some e) (ap is_queue is) refl;
      device = ap (λ (x : Queued). x.device) (sym (same_Some _ r at)) ∙ ap (device_of plan) (sym (add-zero i));
    }
    by_class (queue kind capacity) is (suc q) at later = among-more plan i e more q r true (ap is_queue is) (later q at)
    by_class class is q at later = among-more plan i e more q r false (ap is_queue is) (later q at)

-- The queue of a number stands at a place.
pub record IsQueueOf (plan : List Planned) (q : ℕ) (r : Queued) : Type 0 where
  pub place : ℕ
  pub number : queue_number plan place ≡ Some q
  pub device : r.device ≡ device_of plan place

pub queue-number : (plan : List Planned) (q : ℕ) (r : Queued) → slice_get (queues_of plan) q ≡ Some r → IsQueueOf plan q r
queue-number plan q r at =
    let h = queue-among plan 0 plan q r at in
    record { place = h.place; number = h.number; device = h.device ∙ ap (device_of plan) (zero-add h.place) }

number-among : (plan : List Planned) (i : ℕ) (rest : List Planned) (j q : ℕ) → queue_number rest j ≡ Some q → (r : Queued) × (slice_get (queues_from plan i rest) q ≡ Some r)
number-among plan i [] j q h = absurd (cc)
number-among plan i (e ∷ more) zero q h = by_class e.class (number-of 0 q (Some e) h)
  where
    by_class : (class : Class) → (is_queue class ≡ true) × (0 ≡ q) → (r : Queued) × (slice_get (cons_option (queue_of plan i class) (queues_from plan (i + 1) more)) q ≡ Some r)
    by_class (queue kind capacity) k = (_, ap (slice_get (cons_option (queue_of plan i (queue kind capacity)) (queues_from plan (i + 1) more))) (sym k.1))
    by_class class k = absurd (false≢true k.0)
number-among plan i (e ∷ more) (suc j) q h =
    let k = number-of (queue_count (take (suc j) (e ∷ more))) q (slice_get more j) h in
    let later = number-among plan (i + 1) more j (queue_count (take j more)) (numbered (queue_count (take j more)) (queue_count (take j more)) (slice_get more j) k.0 refl) in
    (later.0, by_class later.0 (queue_count (take j more)) later.1 e.class k.1)
  where
    by_class : (r : Queued) (n : ℕ) → slice_get (queues_from plan (i + 1) more) n ≡ Some r → (class : Class) → (if is_queue class then n + 1 else n) ≡ q
        → slice_get (cons_option (queue_of plan i class) (queues_from plan (i + 1) more)) q ≡ Some r
    by_class r n at class is = search (rules, number-of, false≢true, numbered, add-one)

pub number-queue : (plan : List Planned) (x q : ℕ) → queue_number plan x ≡ Some q → (r : Queued) × (slice_get (queues_of plan) q ≡ Some r)
number-queue plan x q h = number-among plan 0 plan x q h
