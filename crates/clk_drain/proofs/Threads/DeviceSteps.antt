-- The devices of a plan are opened one after another, and the queues of each.
use Rattle.std.proofs.Common.{◌≡◌, ℕ, suc, ◌+◌, ◌<◌, ◌==◌, Bool, true, false, List, [], ◌∷◌, ◌++◌, length, map, take, get_or, slice_get, sym, ap, ◌∙◌, subst, arith, if◌then◌else◌, Vec, rules}
use Rattle.std.proofs.lemmas.Grind.{common_steps}
use Rattle.std.proofs.lemmas.Bool.Decides.{nat_tests}
use Rattle.std.specs.declared.alloc.Global.{Global}
use Rattle.std.specs.List.{AllByRecursion}
use Rattle.std.proofs.lemmas.List.{append-nil, length-map, take_more, get_or-map}
use Rattle.clk_packet.specs.declared.packet.Packet.{Packet}
use Rattle.clk_ruled.specs.Queue.{SeatLists, TapLists}
use Rattle.clk_packet.specs.Lists.{stands_in, AreRising}
use Rattle.clk_sched.specs.Tree.{Tree, root, leaves}
use Rattle.clk_tree.specs.Plan.{Planned}
use Rattle.clk_tree.specs.PlanTree.{IsTreeOf}
use Rattle.clk_tree.specs.declared.plan.parts.QueueSpec.{QueueSpec}
use Rattle.clk_tree.specs.PlanParts.{Queued, queued, queues_of, leads_to, HasCapacity, SharedQueue, shared_at}
use Rattle.clk_drain.specs.declared.running.opening.LeafQueue.{LeafQueue}
use Rattle.clk_drain.specs.declared.running.opening.OpenQueues.{OpenQueues}
use Rattle.clk_drain.specs.inside.Threads.{EndLists}
use Rattle.clk_drain.specs.inside.Opening.{IsOpenAs, AreOpenAs, IsAdded}
use Rattle.clk_drain.specs.Opening.{queues_at}
use Rattle.clk_drain.specs.inside.Devices.{IsOpenOf, AreOpenFrom}
use Rattle.clk_drain.proofs.Plans.QueuesAt.{stands-at}

-- What is known of the queue that stands at a leaf.
pub record IsQueueOf (plan : List Queued) (leaf : ℕ) (q : Queued) : Type 0 where
  pub within : leaf < length plan
  pub is : q ≡ get_or plan leaf q
  pub capacity : HasCapacity q
  pub rises : AreRising q.senders

all-at : {X : Type 0} (P : X → Type 0) (xs : List X) (i : ℕ) (x : X) → AllByRecursion P xs → i < length xs → x ≡ get_or xs i x → P x
all-at P [] i x all lt is = absurd (omega (arith, lt))
all-at P (y ∷ xs) o x all lt is = grind (arith, common_steps, nat_tests)

pub queue-of : (specs : List QueueSpec) (plan : List Queued) (leaf : ℕ) (s : QueueSpec) → map queued specs ≡ plan → AllByRecursion HasCapacity plan → AllByRecursion (λ (q : Queued). AreRising q.senders) plan → leaf < length specs → s ≡ get_or specs leaf s
    → IsQueueOf plan leaf (queued s)
queue-of specs plan leaf s are capacities senders lt is = search (rules, (length-map specs queued), (get_or-map queued specs leaf s (queued s) lt), all-at)

-- a queue more that was opened
open-more : (traces : List (List Packet)) (shared : List SharedQueue) (queues : List LeafQueue) (taps : List TapLists) (seats : List (Vec SeatLists Global)) (q : SharedQueue) (at : LeafQueue) (t : TapLists) (s : Vec SeatLists Global)
    → AreOpenAs traces shared queues taps seats → IsOpenAs traces q at t s.items → AreOpenAs traces (shared ++ q ∷ []) (queues ++ at ∷ []) (taps ++ t ∷ []) (seats ++ s ∷ [])
open-more traces [] [] [] [] q at t s h is = (is, tt)
open-more traces (r ∷ shared) (a ∷ queues) (u ∷ taps) (v ∷ seats) q at t s h is = (h.0, open-more traces shared queues taps seats q at t s h.1 is)
open-more traces shared queues taps seats q at t s h is = absurd h

-- the queues of a device among some and one more
abbrev if_at : ℕ → ℕ → Queued → List SharedQueue
if_at device leaf q = if q.device == device then shared_at leaf q ∷ [] else []

at-more : (device leaf n : ℕ) (queues : List Queued) (q : Queued) → n ≡ leaf + length queues → queues_at device leaf (queues ++ q ∷ []) ≡ queues_at device leaf queues ++ if_at device n q
at-more device leaf n [] q e = search rules
at-more device leaf n (p ∷ queues) q e = search (rules, (at-more device (suc leaf) n queues q (omega (arith, e))))

-- The queues of a device among the first so many of a plan's were opened.
abbrev pub AreOpening : List (List Packet) → ℕ → List Queued → OpenQueues → ℕ → Type 0
AreOpening traces device plan opened leaf = AreOpenAs traces (queues_at device 0 (take leaf plan)) opened.queues.items opened.taps.items opened.seats.items

-- those of one queue more
taken-more : (device leaf : ℕ) (plan : List Queued) (q : Queued) → leaf < length plan → q ≡ get_or plan leaf q → queues_at device 0 (take (leaf + 1) plan) ≡ queues_at device 0 (take leaf plan) ++ if_at device leaf q
taken-more device leaf plan q lt is = search (rules, take_more, at-more)

pub opened-more : (traces : List (List Packet)) (device leaf : ℕ) (plan : List Queued) (q : Queued) (old new : OpenQueues) → leaf < length plan → q ≡ get_or plan leaf q → (q.device == device) ≡ true
    → IsAdded traces (shared_at leaf q) old new → AreOpening traces device plan old leaf → AreOpening traces device plan new (leaf + 1)
opened-more traces device leaf plan q old new lt is own added h =
    let are : queues_at device 0 (take (leaf + 1) plan) ≡ queues_at device 0 (take leaf plan) ++ shared_at leaf q ∷ [] =
    taken-more device leaf plan q lt is ∙ ap (λ (b : Bool). queues_at device 0 (take leaf plan) ++ (if b then shared_at leaf q ∷ [] else [])) own in
    subst (λ (x : List SharedQueue × (List LeafQueue × (List TapLists × List (Vec SeatLists Global)))). AreOpenAs traces x.0 x.1.0 x.1.1.0 x.1.1.1)
    (λ i. (sym are i, (sym added.queues_are i, (sym added.taps_are i, sym added.seats_are i))))
    (open-more traces (queues_at device 0 (take leaf plan)) old.queues.items old.taps.items old.seats.items (shared_at leaf q) added.at added.tap added.seats h added.opened)

-- A queue of another device is passed over.
pub opened-same : (traces : List (List Packet)) (device leaf : ℕ) (plan : List Queued) (q : Queued) (opened : OpenQueues) → leaf < length plan → q ≡ get_or plan leaf q → (q.device == device) ≡ false
    → AreOpening traces device plan opened leaf → AreOpening traces device plan opened (leaf + 1)
opened-same traces device leaf plan q opened lt is other h = search (rules, (taken-more device leaf plan q lt is), (append-nil (queues_at device 0 (take leaf plan))))

-- One device more was opened.
pub open-below : (plan : List Planned) (traces : List (List Packet)) (device end : ℕ) (queues : List (Vec LeafQueue Global)) (seats : List (Vec (Vec SeatLists Global) Global)) (ends : List EndLists) (q : Vec LeafQueue Global) (s : Vec (Vec SeatLists Global) Global) (e : EndLists)
    → AreOpenFrom plan traces device end queues seats ends → IsOpenOf plan traces end q.items s.items e → AreOpenFrom plan traces device (end + 1) (queues ++ q ∷ []) (seats ++ s ∷ []) (ends ++ e ∷ [])
open-below plan traces device end [] [] [] q s e h is = (subst (λ (n : ℕ). IsOpenOf plan traces n q.items s.items e) (sym h) is, omega (arith, h))
open-below plan traces device end (r ∷ queues) (t ∷ seats) (f ∷ ends) q s e h is = (h.0, open-below plan traces (suc device) end queues seats ends q s e h.1 is)
open-below plan traces device end queues seats ends q s e h is = absurd h

-- A device was opened: its session is before its first pull, and its queues are those whose paths end at it.
pub opened-device : (plan : List Planned) (traces : List (List Packet)) (device : ℕ) (queues : List LeafQueue) (seats : List (Vec SeatLists Global)) (ends : EndLists) (tree : Tree) → ends.session.tree ≡ tree → ends.session.log ≡ [] → IsTreeOf plan device tree
    → ((q : ℕ) → stands_in q (leaves (root tree)) ≡ leads_to device (slice_get (queues_of plan) q)) → AreOpenAs traces (queues_at device 0 (queues_of plan)) queues ends.taps seats → IsOpenOf plan traces device queues seats ends
opened-device plan traces device queues seats ends tree its none made stand opened = record {
  tree = subst (IsTreeOf plan device) (sym its) made;
  none = none;
  leaves_are = λ q. ap (λ (t : Tree). stands_in q (leaves (root t))) its ∙ stand q ∙ sym (stands-at device q (queues_of plan));
  opened = opened;
}
