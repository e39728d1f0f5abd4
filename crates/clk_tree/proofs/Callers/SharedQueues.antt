-- The queues of a plan by their numbers, and the same queues with their devices.
use Rattle.std.proofs.Common.{◌≡◌, ℕ, ◌+◌, zero, suc, Bool, if◌then◌else◌, List, [], ◌∷◌, ◌++◌, length, take, option_map, slice_get, refl, sym, ap, ◌∙◌, subst, append_assoc, add-one, zero-add, rules}
use Rattle.std.specs.List.{cons_option}
use Rattle.std.proofs.lemmas.List.{length-append}
use Rattle.clk_syntax.specs.Classes.{Class, queue}
use Rattle.clk_tree.specs.Plan.{Planned}
use Rattle.clk_tree.specs.PlanTree.{is_queue, queue_count}
use Rattle.clk_tree.specs.PlanParts.{SharedQueue, Queued, senders_of, shared_queue, shared_queues, shared_at, queue_of, queues_of}
pub use Rattle.clk_tree.specs.inside.FromPlace.{queues_from}
use Rattle.clk_tree.specs.inside.FromPlace.{shared_from}
pub use Rattle.clk_tree.specs.inside.ByNumber.{senders_to}

-- queues without their devices, numbered from this number on
abbrev pub all_shared : ℕ → List Queued → List SharedQueue
all_shared leaf [] = []
all_shared leaf (q ∷ queues) = shared_at leaf q ∷ all_shared (suc leaf) queues

take-front : (before rest : List Planned) → take (length before) (before ++ rest) ≡ before
take-front [] rest = refl
take-front (e ∷ before) rest = ap (λ l. e ∷ l) (take-front before rest)

count-next : (before : List Planned) (e : Planned) → queue_count (before ++ e ∷ []) ≡ (if is_queue e.class then suc (queue_count before) else queue_count before)
count-next [] e = by_class (is_queue e.class)
  where
    by_class : (b : Bool) → (if b then 0 + 1 else 0) ≡ (if b then 1 else 0)
    by_class b = search rules
count-next (x ∷ before) e = by_classes (is_queue x.class) (is_queue e.class) (count-next before e)
  where
    by_classes : (b c : Bool) → queue_count (before ++ e ∷ []) ≡ (if c then suc (queue_count before) else queue_count before)
        → (if b then queue_count (before ++ e ∷ []) + 1 else queue_count (before ++ e ∷ [])) ≡ (if c then suc (if b then queue_count before + 1 else queue_count before) else (if b then queue_count before + 1 else queue_count before))
    by_classes b c later = search (rules, add-one)

from-place : (plan before rest : List Planned) → plan ≡ before ++ rest → shared_from plan (length before) rest ≡ all_shared (queue_count before) (queues_from plan (length before) rest)
from-place plan before [] is = refl
from-place plan before (e ∷ more) is =
    by_class e.class
    (subst (λ (x : ℕ × ℕ). shared_from plan x.0 more ≡ all_shared x.1 (queues_from plan x.0 more)) (λ i. (length-append before (e ∷ []) i, count-next before e i))
    (from-place plan (before ++ e ∷ []) more (is ∙ sym (append_assoc before (e ∷ []) more))))
  where
    place : ℕ
    place = length before

    by_class : (class : Class) → shared_from plan (place + 1) more ≡ all_shared (if is_queue class then suc (queue_count before) else queue_count before) (queues_from plan (place + 1) more)
        → cons_option (shared_queue plan place class) (shared_from plan (place + 1) more) ≡ all_shared (queue_count before) (cons_option (queue_of plan place class) (queues_from plan (place + 1) more))
    by_class (queue kind capacity) later =
        let front : take place plan ≡ before = ap (take place) is ∙ take-front before (e ∷ more) in
        λ i. record { leaf = queue_count (front i); kind = kind; capacity = capacity; senders = senders_to (senders_of plan) (queue_count (take place plan)) } ∷ later i
    by_class class later = later

pub shared-numbered : (plan : List Planned) → shared_queues plan ≡ all_shared 0 (queues_of plan)
shared-numbered plan = from-place plan [] plan refl

slice-shared : (leaf k : ℕ) (queues : List Queued) → slice_get (all_shared leaf queues) k ≡ option_map (shared_at (leaf + k)) (slice_get queues k)
slice-shared leaf k [] = refl
slice-shared leaf zero (q ∷ queues) = search rules
slice-shared leaf (suc k) (q ∷ queues) = search (rules, (slice-shared (suc leaf) k queues))

pub numbered-at : (plan : List Planned) (q : ℕ) → slice_get (shared_queues plan) q ≡ option_map (shared_at q) (slice_get (queues_of plan) q)
numbered-at plan q = ap (λ queues. slice_get queues q) (shared-numbered plan) ∙ slice-shared 0 q (queues_of plan) ∙ ap (λ n. option_map (shared_at n) (slice_get (queues_of plan) q)) (zero-add q)
