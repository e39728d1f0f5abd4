-- What the lists of a run that failed with fault 21 come to, in counts.
use Rattle.std.proofs.Common.{◌≡◌, ℕ, zero, suc, ◌+◌, ◌<◌, ◌==◌, Bool, true, false, List, [], ◌∷◌, ◌++◌, length, map, sum_by, Option, Some, None, MatchOption, option_map, slice_get, refl, sym, ap, ◌∙◌, subst, inl, arith, if◌then◌else◌, rules}
use Rattle.std.proofs.lemmas.List.{map-append}
use Rattle.std.proofs.lemmas.List.Sums.{sum_by-cons}
use Rattle.std.specs.List.{flat_map, range_with_len, AllByRecursion}
use Rattle.clk_packet.specs.declared.packet.Packet.{Packet}
use Rattle.clk_packet.specs.declared.packet.Kind.TheVariants.{TailDrop, FrontDrop}
use Rattle.clk_packet.specs.declared.fault.Fault.{Fault}
use Rattle.clk_packet.specs.Lists.{In, are_distinct}
use Rattle.clk_packet.specs.Trace.{sent_by}
use Rattle.clk_packet.proofs.Callers.Dealt.{dealt-length}
use Rattle.clk_ruled.specs.Queue.{SeatLists, IsSharedOut}
use Rattle.clk_ruled.specs.Settle.{accepted_of, evicted_of, accepted_count, lost_count}
use Rattle.clk_tree.specs.Plan.{Planned}
use Rattle.clk_tree.specs.PlanTree.{device_count}
use Rattle.clk_tree.specs.PlanParts.{Queued, queues_of, SharedQueue, shared_at}
use Rattle.clk_tree.proofs.Callers.SharedQueues.{numbered-at}
use Rattle.clk_gate.specs.Known.{senders_in, first_unknown}
use Rattle.clk_drain.specs.Closing.{HasSent}
use Rattle.clk_drain.specs.Laws.{HasOffered, IsUnsettledRun}
use Rattle.clk_drain.specs.Line.{senders_at}
use Rattle.clk_drain.specs.Lost.{SeatedQueue}
use Rattle.clk_drain.specs.Run.{HasLostEarly, IsFaultOfRun}
use Rattle.clk_drain.specs.Opening.{queues_at}
use Rattle.clk_drain.proofs.Plans.Apart.{apart-parts}
use Rattle.clk_drain.proofs.Drains.Settling.{own-list}
use Rattle.clk_packet.proofs.Callers.Lists.{all-append, all-both}
use Rattle.clk_sched.proofs.Callers.Lists.{all-split, all-weaker}

-- The queues of devices are those of the plan, by their numbers.
abbrev StandsIn : List Queued → SharedQueue → Type 0
StandsIn queues q = MatchOption (slice_get queues q.leaf) ⊥ (λ k. shared_at q.leaf k ≡ q)

at-leaves : (all : List Queued) (device leaf : ℕ) (queues : List Queued) → ((k : ℕ) → slice_get all (leaf + k) ≡ slice_get queues k) → AllByRecursion (StandsIn all) (queues_at device leaf queues)
at-leaves all device leaf [] is = tt
at-leaves all device leaf (q ∷ queues) is = search (rules, (is 0), (at-leaves all device (suc leaf) queues (λ k. subst (λ n. slice_get all n ≡ slice_get queues k) (omega arith) (is (suc k)))))

by-devices : (queues : List Queued) (first count : ℕ) → AllByRecursion (StandsIn queues) (flat_map (λ device. queues_at device 0 queues) (range_with_len first count))
by-devices queues first zero = tt
by-devices queues first (suc count) = all-append (StandsIn queues) (queues_at first 0 queues) _ (at-leaves queues first 0 queues (λ k. ap (slice_get queues) (omega arith))) (by-devices queues (first + 1) count)

abbrev pub queue_in : SeatedQueue → SharedQueue
queue_in s = s.queue

-- So is the queue that is named.
named : (plan : List Planned) (traces : List (List Packet)) (fault : Fault) (u : IsUnsettledRun plan traces fault) → StandsIn (queues_of plan) u.names.first.queue
named plan traces fault u =
    (all-split (StandsIn (queues_of plan)) (map queue_in u.names.earlier) (map queue_in (u.names.first ∷ u.names.later))
    (subst (AllByRecursion (StandsIn (queues_of plan))) (sym u.are ∙ ap (map queue_in) u.names.all ∙ map-append queue_in u.names.earlier (u.names.first ∷ u.names.later)) (by-devices (queues_of plan) 0 (device_count plan)))).1.0

-- No sender stands twice among those of one queue.
pub one-apart : (queues : List Queued) (n : ℕ) (q : Queued) → are_distinct (flat_map (λ (k : Queued). k.senders) queues) ≡ true → slice_get queues n ≡ Some q → are_distinct q.senders ≡ true
one-apart [] n q apart at = absurd (cc)
one-apart (k ∷ queues) zero q apart at = search (rules, (apart-parts k.senders (flat_map (λ (k : Queued). k.senders) queues) apart))
one-apart (k ∷ queues) (suc n) q apart at = one-apart queues n q (apart-parts k.senders (flat_map (λ (k : Queued). k.senders) queues) apart).1 at

-- how many packets these senders send in all
abbrev pub sent_in_all : (ℕ → List Packet) → List ℕ → ℕ
sent_in_all sent [] = 0
sent_in_all sent (s ∷ senders) = length (sent s) + sent_in_all sent senders

pub sent-sum : (sent : ℕ → List Packet) (senders : List ℕ) → sum_by (λ s. length (sent s)) senders ≡ sent_in_all sent senders
sent-sum sent [] = refl
sent-sum sent (s ∷ senders) = sum_by-cons (λ s. length (sent s)) s senders ∙ ap (λ n. length (sent s) + n) (sent-sum sent senders)

-- Where nothing was evicted, what was accepted and what was lost is what was sent.
pub counts-tail : (sent : ℕ → List Packet) (seats : List SeatLists) → AllByRecursion (HasSent sent) seats → AllByRecursion (λ (l : SeatLists). l.evicted ≡ []) seats → sent_in_all sent (senders_at seats) ≡ accepted_count seats + lost_count seats
counts-tail sent [] h none = refl
counts-tail sent (l ∷ seats) h none = search (rules, (dealt-length (sent l.sender) l.accepted l.refused h.0.2), (ap length none.0), (counts-tail sent seats h.1 none.1))

-- Where nothing was refused, all that was sent was accepted.
pub counts-front : (sent : ℕ → List Packet) (seats : List SeatLists) → AllByRecursion (HasSent sent) seats → AllByRecursion (λ (l : SeatLists). l.refused ≡ []) seats → accepted_count seats ≡ sent_in_all sent (senders_at seats)
counts-front sent [] h none = refl
counts-front sent (l ∷ seats) h none = search (rules, (dealt-length (sent l.sender) l.accepted l.refused h.0.2), (ap length none.0), (counts-front sent seats h.1 none.1))

-- Where nothing was refused and something was lost, a packet was evicted.
some-evicted : (all seats : List SeatLists) → AllByRecursion (λ (l : SeatLists). l.refused ≡ []) seats → AllByRecursion (λ (l : SeatLists). evicted_of all l.sender ≡ l.evicted) seats → 0 < lost_count seats
    → (p : Packet) × In p (flat_map (evicted_of all) (senders_at seats))
some-evicted all [] none own lost = absurd (omega (arith, lost))
some-evicted all (l ∷ seats) none own lost = by_list (some-evicted all seats none.1 own.1) l.evicted refl
  where
    by_list : (0 < lost_count seats → (p : Packet) × In p (flat_map (evicted_of all) (senders_at seats))) → (out : List Packet) → l.evicted ≡ out → (p : Packet) × In p (flat_map (evicted_of all) (senders_at (l ∷ seats)))
    by_list later [] is =
        let rest = later (let a = ap length is in let b = ap length none.0 in omega (arith, lost, a, b)) in
        (rest.0, subst (λ (first : List Packet). In rest.0 (first ++ flat_map (evicted_of all) (senders_at seats))) (sym (own.0 ∙ is)) rest.1)
    by_list later (p ∷ out) is = (p, subst (λ (first : List Packet). In p (first ++ flat_map (evicted_of all) (senders_at seats))) (sym (own.0 ∙ is)) (inl refl))

-- Where a packet was accepted, some were.
some-accepted : (seats : List SeatLists) (s : ℕ) (p : Packet) → In p (accepted_of seats s) → 0 < accepted_count seats
some-accepted [] s p among = absurd among
some-accepted (l ∷ seats) s p among = by_test (some-accepted seats s p) (l.sender == s) among
  where
    some : (packets : List Packet) → In p packets → 0 < length packets
    some [] h = absurd h
    some (q ∷ packets) h = omega arith

    by_test : (In p (accepted_of seats s) → 0 < accepted_count seats) → (b : Bool) → In p (if b then l.accepted else accepted_of seats s) → 0 < length l.accepted + accepted_count seats
    by_test later true here = let first = some l.accepted here in omega (arith, first)
    by_test later false h = let rest = later h in omega (arith, rest)

-- Where lists of what the queues did agree with fault 21, its counts are those of a queue that lost packets early.
pub lost-early : (plan : List Planned) (traces : List (List Packet)) (fault : Fault) → are_distinct (flat_map (λ (k : Queued). k.senders) (queues_of plan)) ≡ true → first_unknown (senders_in plan) traces ≡ None → IsUnsettledRun plan traces fault → IsFaultOfRun plan traces fault
lost-early plan traces fault apart known u = subst (IsFaultOfRun plan traces) (sym u.names.fault_is) (known, subst (λ o. MatchOption o ⊥ (λ q. HasLostEarly q (sum_by (λ s. length (sent_by traces s)) q.senders) (accepted_count seats) queue.capacity)) (sym (numbered-at plan queue.leaf)) (by_queue (slice_get (queues_of plan) queue.leaf) refl (named plan traces fault u)))
  where
    queue : SharedQueue
    queue = u.names.first.queue

    seats : List SeatLists
    seats = u.names.first.seats

    offered : HasOffered traces u.names.first
    offered = (all-split (HasOffered traces) u.names.earlier (u.names.first ∷ u.names.later) (subst (AllByRecursion (HasOffered traces)) u.names.all u.offered)).1.0

    -- the counts of the queue, once it is known which of the plan's it is
    counts : (k : Queued) → are_distinct k.senders ≡ true → shared_at queue.leaf k ≡ queue → HasLostEarly (shared_at queue.leaf k) (sent_in_all (sent_by traces) k.senders) (accepted_count seats) queue.capacity
    counts k alone is = record { capacity_is = sym (ap (λ (q : SharedQueue). q.capacity) is); below = u.names.below.below; refused = refuses; evicted = evicts }
      where
        senders : senders_at seats ≡ k.senders
        senders = offered.senders ∙ sym (ap (λ (q : SharedQueue). q.senders) is)

        kind : queue.kind ≡ k.kind
        kind = sym (ap (λ (q : SharedQueue). q.kind) is)

        own : AllByRecursion (λ (c : SeatLists). evicted_of seats c.sender ≡ c.evicted) seats
        own = own-list (λ c. c.evicted) seats (subst (λ ns. are_distinct ns ≡ true) (sym senders) alone)

        refuses : k.kind ≡ TailDrop → accepted_count seats < sent_in_all (sent_by traces) k.senders
        refuses tail =
            let none = all-weaker (λ (c : SeatLists). evicted_of seats c.sender ≡ c.evicted) (λ (c : SeatLists). c.evicted ≡ []) seats (λ c e. sym e ∙ u.names.below.account.tail_drop (kind ∙ tail) c.sender) own in
            let lost = u.names.below.lost in
            let sum = subst (λ ns. sent_in_all (sent_by traces) ns ≡ accepted_count seats + lost_count seats) senders (counts-tail (sent_by traces) seats offered.sent none) in omega (arith, lost, sum)

        evicts : k.kind ≡ FrontDrop → (0 < accepted_count seats) × (accepted_count seats ≡ sent_in_all (sent_by traces) k.senders)
        evicts front =
            let none = all-both (λ (c : SeatLists). c.setup.kind ≡ queue.kind) IsSharedOut (λ (c : SeatLists). c.refused ≡ []) seats (λ c e shared. shared.front_drop (e ∙ kind ∙ front)) u.names.below.kinds u.names.below.shared in
            let out = some-evicted seats seats none own u.names.below.lost in (
              some-accepted seats out.0.sender out.0 (u.names.below.account.was_taken out.0 (subst (λ ns. In out.0 (flat_map (evicted_of seats) ns)) offered.senders out.1)),
              subst (λ ns. accepted_count seats ≡ sent_in_all (sent_by traces) ns) senders (counts-front (sent_by traces) seats offered.sent none),
            )

    by_queue : (o : Option Queued) → slice_get (queues_of plan) queue.leaf ≡ o → MatchOption o ⊥ (λ k. shared_at queue.leaf k ≡ queue)
        → MatchOption (option_map (shared_at queue.leaf) o) ⊥ (λ q. HasLostEarly q (sum_by (λ s. length (sent_by traces s)) q.senders) (accepted_count seats) queue.capacity)
    by_queue None at none = none
    by_queue (Some k) at is =
        subst (λ n. HasLostEarly (shared_at queue.leaf k) n (accepted_count seats) queue.capacity) (sym (sent-sum (sent_by traces) k.senders)) (counts k (one-apart (queues_of plan) queue.leaf k apart at) is)
