-- The trees of a plan as they are made, and that a router can run over it.
use Rattle.std.proofs.Common.{◌≡◌, ℕ, ◌+◌, ◌≤◌, ◌<◌, ◌⊎◌, inl, inr, List, [], ◌∷◌, ◌++◌, length, map, zero, suc, Some, slice_get, refl, sym, ap, ◌∙◌, subst, arith, rules}
use Rattle.std.specs.List.{AllByRecursion}
use Rattle.std.proofs.lemmas.List.{length-append, length-map}
use Rattle.clk_packet.specs.declared.limits.TheConstants.{MAX_ELEMENTS, MAX_CAPACITY}
use Rattle.clk_sched.specs.Tree.{Tree}
use Rattle.clk_tree.specs.declared.plan.parts.SenderSpec.{SenderSpec}
use Rattle.clk_tree.specs.Plan.{Planned}
use Rattle.clk_tree.specs.PlanTree.{device_count, IsTreeOf}
use Rattle.clk_packet.specs.Lists.{AreRising}
use Rattle.clk_tree.specs.PlanParts.{Queued, queues_of, number_of, SendsWithin, HasCapacity}
use Rattle.clk_tree.specs.Shares.{AreTreesOf}
use Rattle.clk_router.specs.Events.{Room}
use Rattle.clk_router.specs.inside.Parts.{CanStand, IsWhole, room_of, setup_of}

-- the trees of the first so many devices
pub record AreMade (plan : List Planned) (n : ℕ) (trees : List Tree) : Type 0 where
  pub count : length trees ≡ n
  pub each : (d : ℕ) (tree : Tree) → slice_get trees d ≡ Some tree → IsTreeOf plan d tree
  pub stand : AllByRecursion CanStand trees

-- a member of a list with one more is one of it, or the last
at-end : (trees : List Tree) (t : Tree) (d : ℕ) (tree : Tree) → slice_get (trees ++ t ∷ []) d ≡ Some tree → (slice_get trees d ≡ Some tree) ⊎ ((d ≡ length trees) × (t ≡ tree))
at-end [] t zero tree e = inr (refl, cc)
at-end [] t (suc d) tree e = absurd (cc)
at-end (x ∷ trees) t zero tree e = inl e
at-end (x ∷ trees) t (suc d) tree e = search (rules, (at-end trees t d tree e))

all-with : {X : Type 0} (P : X → Type 0) (xs : List X) (x : X) → AllByRecursion P xs → P x → AllByRecursion P (xs ++ x ∷ [])
all-with P [] x h p = (p, tt)
all-with P (y ∷ xs) x h p = (h.0, all-with P xs x h.1 p)

-- one tree more
pub made-more : (plan : List Planned) (n : ℕ) (trees more : List Tree) (t : Tree) → more ≡ trees ++ t ∷ [] → AreMade plan n trees → IsTreeOf plan n t → CanStand t → AreMade plan (n + 1) more
made-more plan n trees more t e made is stands = search (rules, length-append, at-end, all-with)

all-rooms : (n : ℕ) (queues : List Queued) → AllByRecursion (λ (q : Queued). q.device < n) queues → AllByRecursion (λ (room : Room). room.device < n) (map room_of queues)
all-rooms n [] h = tt
all-rooms n (q ∷ queues) h = (h.0, all-rooms n queues h.1)

all-fit : (queues : List Queued) → AllByRecursion HasCapacity queues → AllByRecursion (λ (room : Room). room.capacity ≤ MAX_CAPACITY) (map room_of queues)
all-fit [] h = tt
all-fit (q ∷ queues) h = (h.0.1, all-fit queues h.1)

-- a router can run over a plan
pub plan-whole : (names : List (List ℕ)) (plan : List Planned) (trees : List Tree) (queues : List Queued) (senders : List SenderSpec) → AreTreesOf plan trees → 1 ≤ length trees → length trees ≤ MAX_ELEMENTS → queues ≡ queues_of plan → AreRising (map number_of senders)
    → AllByRecursion (SendsWithin (length (queues_of plan))) senders → AllByRecursion (λ (q : Queued). q.device < device_count plan) (queues_of plan) → length (queues_of plan) ≤ MAX_ELEMENTS → AllByRecursion HasCapacity (queues_of plan)
    → IsWhole (setup_of names trees queues senders)
plan-whole names plan trees queues senders are some few its rising wired paths queues_few capacities = record {
  some = some;
  few = omega (arith, few);
  rising = rising;
  wired = subst (λ n. AllByRecursion (SendsWithin n) senders) (ap length (sym its) ∙ sym (length-map queues room_of)) wired;
  paths = all-rooms (length trees) queues (subst (λ n. AllByRecursion (λ (q : Queued). q.device < n) queues) (sym are.count) (subst (AllByRecursion (λ (q : Queued). q.device < device_count plan)) (sym its) paths));
  queue_count = let count = length-map queues room_of ∙ ap length its in omega (arith, count, queues_few);
  capacities = all-fit queues (subst (AllByRecursion HasCapacity) (sym its) capacities);
}
