-- The queues of one device of a plan, and the leaves at which they stand.
use Rattle.std.proofs.Common.{◌≡◌, ℕ, zero, suc, ◌+◌, ◌<◌, ◌==◌, Bool, false, if◌then◌else◌, List, [], ◌∷◌, map, filter, slice_get, refl, sym, ap, ap₂, subst, ◌∙◌, zero-add, arith, rules}
use Rattle.std.specs.List.{AllByRecursion, flat_map}
use Rattle.clk_packet.specs.Lists.{stands_in, AreRising}
use Rattle.clk_sched.specs.Tree.{Tree, root, leaves}
use Rattle.clk_tree.specs.Plan.{Planned}
use Rattle.clk_tree.specs.PlanParts.{SharedQueue, Queued, shared_at, shared_queues, queues_of, leads_to}
use Rattle.clk_tree.proofs.Callers.SharedQueues.{all_shared, shared-numbered}
use Rattle.clk_drain.specs.Opening.{queues_at}

-- the leaves of the queues of a device, where the first of all stands at this one
abbrev leaves_at : ℕ → ℕ → List Queued → List ℕ
leaves_at device leaf queues = map (λ (s : SharedQueue). s.leaf) (queues_at device leaf queues)

-- They rise.
below-at : (device n leaf : ℕ) (queues : List Queued) → n < leaf → AllByRecursion (λ m. n < m) (leaves_at device leaf queues)
below-at device n leaf [] lt = tt
below-at device n leaf (q ∷ queues) lt = search (rules, (below-at device n (suc leaf) queues (omega arith)))

pub rise-at : (device leaf : ℕ) (queues : List Queued) → AreRising (leaves_at device leaf queues)
rise-at device leaf [] = tt
rise-at device leaf (q ∷ queues) = search (rules, (below-at device leaf (suc leaf) queues (omega arith)), (rise-at device (suc leaf) queues))

-- A leaf of none before it is none of theirs.
none-at : (device n leaf : ℕ) (queues : List Queued) → n < leaf → stands_in n (leaves_at device leaf queues) ≡ false
none-at device n leaf [] lt = refl
none-at device n leaf (q ∷ queues) lt = search (rules, (none-at device n (suc leaf) queues (omega arith)))

-- A leaf is one of theirs just where the queue in that place leads to the device.
stands-from : (device n leaf place : ℕ) (queues : List Queued) → n ≡ leaf + place → stands_in n (leaves_at device leaf queues) ≡ leads_to device (slice_get queues place)
stands-from device n leaf place [] e = refl
stands-from device n leaf zero (q ∷ queues) e = search (rules, none-at)
stands-from device n leaf (suc place) (q ∷ queues) e = search (rules, (stands-from device n (suc leaf) place queues (omega (arith, e))))

pub stands-at : (device n : ℕ) (queues : List Queued) → stands_in n (leaves_at device 0 queues) ≡ leads_to device (slice_get queues n)
stands-at device n queues = search (rules, stands-from)

-- Their senders are those of the queues that lead to the device.
pub senders-at : (device leaf : ℕ) (queues : List Queued) → flat_map (λ (s : SharedQueue). s.senders) (queues_at device leaf queues) ≡ flat_map (λ (q : Queued). q.senders) (filter (λ (q : Queued). q.device == device) queues)
senders-at device leaf [] = refl
senders-at device leaf (q ∷ queues) = search (rules, (senders-at device (suc leaf) queues))

-- They are the queues that are leaves of a tree to whose leaves just they lead.
from-leaf : (device n : ℕ) (numbers : List ℕ) (queues : List Queued) → ((k : ℕ) → stands_in (n + k) numbers ≡ leads_to device (slice_get queues k))
    → filter (λ (q : SharedQueue). stands_in q.leaf numbers) (all_shared n queues) ≡ queues_at device n queues
from-leaf device n numbers [] h = refl
from-leaf device n numbers (q ∷ queues) h = ap₂ (λ (b : Bool) (l : List SharedQueue). if b then shared_at n q ∷ l else l)
    (subst (λ k. stands_in k numbers ≡ (q.device == device)) (let e : n + 0 ≡ n = omega arith in e) (h 0))
    (from-leaf device (suc n) numbers queues (λ k. subst (λ l. stands_in l numbers ≡ leads_to device (slice_get queues k)) (let e : n + suc k ≡ suc n + k = omega arith in e) (h (suc k))))

pub by-leaves : (plan : List Planned) (device : ℕ) (tree : Tree) → ((q : ℕ) → stands_in q (leaves (root tree)) ≡ leads_to device (slice_get (queues_of plan) q))
    → filter (λ (q : SharedQueue). stands_in q.leaf (leaves (root tree))) (shared_queues plan) ≡ queues_at device 0 (queues_of plan)
by-leaves plan device tree h =
    ap (filter (λ (q : SharedQueue). stands_in q.leaf (leaves (root tree)))) (shared-numbered plan)
    ∙ from-leaf device 0 (leaves (root tree)) (queues_of plan) (λ k. subst (λ l. stands_in l (leaves (root tree)) ≡ leads_to device (slice_get (queues_of plan) k)) (sym (zero-add k)) (h k))
