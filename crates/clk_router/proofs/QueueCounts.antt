-- How many packets the queues of a device accepted, put out and gave in some events: as many as the events say.
use Rattle.std.proofs.Common.{◌≡◌, ℕ, ◌+◌, ◌==◌, ◌&&◌, ◌||◌, if◌then◌else◌, Bool, true, false, List, [], ◌∷◌, ◌++◌, length, map, append-nil, append_assoc, length-append, Option, Some, None, slice_get, MatchOption, refl, sym, ap, ap₂, ◌∙◌, subst, arith, rules}
use Rattle.std.specs.Bool.{⊤}
use Rattle.std.specs.List.{filter_map, cons_option, AllByRecursion, list_any}
use Rattle.std.proofs.lemmas.Bool.{false≢true}
use Rattle.std.proofs.lemmas.Bool.Decides.{nat_tests}
use Rattle.std.proofs.lemmas.List.Elements.{filter_map-append}
use Rattle.clk_packet.specs.declared.packet.Packet.{Packet}
use Rattle.clk_packet.specs.declared.packet.Kind.{Kind}
use Rattle.clk_packet.specs.declared.packet.Offered.{Offered}
use Rattle.clk_packet.specs.declared.packet.Offered.TheVariants.{Accepted, Refused, Evicted}
use Rattle.clk_ring.specs.QueueHistory.{QueueEvent, accept, refuse, evict, give, empty, accepted, gone, held, IsInOrder, EachStands, offer_events, pull_event}
use Rattle.clk_sched.specs.declared.visit.Visit.{Visit}
use Rattle.clk_packet.specs.Lists.{stands_in, are_distinct, AreRising}
use Rattle.clk_sched.specs.Tree.{Tree, root, leaves}
use Rattle.clk_sched.specs.Results.{asks_queue, leaf_packets, emitted, heads}
use Rattle.clk_sched.specs.Conservation.{given_in_all}
use Rattle.clk_sched.specs.Closing.{held_in_all, left_in}
use Rattle.clk_tree.specs.declared.plan.parts.SenderSpec.{SenderSpec}
use Rattle.clk_tree.specs.PlanParts.{number_of}
use Rattle.clk_router.specs.Events.{Room, Setup, Event, offered, pulled, is_of_device, happens_at, log_of, accepted_in, evicted_in, sends_to, answers_in, at_queue, history}
use Rattle.clk_router.specs.InsideQueues.{given_by}
use Rattle.clk_router.specs.inside.Closable.{AreQueuesOf, is_at}
use Rattle.clk_router.proofs.Callers.Apart.{none-later}

-- how many events of a queue, weighed one by one
abbrev pub total : (QueueEvent → ℕ) → List QueueEvent → ℕ
total weight [] = 0
total weight (e ∷ events) = weight e + total weight events

abbrev pub is_accept : QueueEvent → ℕ
is_accept (accept p) = 1
is_accept (refuse p) = 0
is_accept (evict p) = 0
is_accept (give p) = 0
is_accept empty = 0

abbrev pub is_evict : QueueEvent → ℕ
is_evict (accept p) = 0
is_evict (refuse p) = 0
is_evict (evict p) = 1
is_evict (give p) = 0
is_evict empty = 0

abbrev pub is_give : QueueEvent → ℕ
is_give (accept p) = 0
is_give (refuse p) = 0
is_give (evict p) = 0
is_give (give p) = 1
is_give empty = 0

pub total-append : (weight : QueueEvent → ℕ) (xs ys : List QueueEvent) → total weight (xs ++ ys) ≡ total weight xs + total weight ys
total-append weight [] ys = omega arith
total-append weight (x ∷ xs) ys = let rest = total-append weight xs ys in omega (arith, rest)

total-accepted : (events : List QueueEvent) → length (accepted events) ≡ total is_accept events
total-accepted [] = refl
total-accepted (accept p ∷ events) = let rest = total-accepted events in omega (arith, rest)
total-accepted (refuse p ∷ events) = let rest = total-accepted events in omega (arith, rest)
total-accepted (evict p ∷ events) = let rest = total-accepted events in omega (arith, rest)
total-accepted (give p ∷ events) = let rest = total-accepted events in omega (arith, rest)
total-accepted (empty ∷ events) = let rest = total-accepted events in omega (arith, rest)

total-gone : (events : List QueueEvent) → length (gone events) ≡ total is_evict events + total is_give events
total-gone [] = omega arith
total-gone (accept p ∷ events) = let rest = total-gone events in omega (arith, rest)
total-gone (refuse p ∷ events) = let rest = total-gone events in omega (arith, rest)
total-gone (evict p ∷ events) = let rest = total-gone events in omega (arith, rest)
total-gone (give p ∷ events) = let rest = total-gone events in omega (arith, rest)
total-gone (empty ∷ events) = let rest = total-gone events in omega (arith, rest)

-- the parts of a history
pub stands-first : (kind : Kind) (capacity : ℕ) (before after : List QueueEvent) → EachStands kind capacity before after → IsInOrder capacity before
stands-first kind capacity before [] h = h
stands-first kind capacity before (e ∷ after) h = h.0

pub stands-rest : (kind : Kind) (capacity : ℕ) (before between after : List QueueEvent) → EachStands kind capacity before (between ++ after) → EachStands kind capacity (before ++ between) after
stands-rest kind capacity before [] after h = subst (λ l. EachStands kind capacity l after) (sym (append-nil before)) h
stands-rest kind capacity before (e ∷ between) after h =
    subst (λ l. EachStands kind capacity l after) (append_assoc before (e ∷ []) between) (stands-rest kind capacity (before ++ e ∷ []) between after h.3)

-- what a history took in is what was put out, given, and is held
pub history-counts : (capacity : ℕ) (events : List QueueEvent) → IsInOrder capacity events → total is_accept events ≡ total is_evict events + total is_give events + length (held events)
history-counts capacity events h = search (rules, length-append, total-accepted, total-gone)

-- sums over queues
abbrev pub sum_over : (ℕ → ℕ) → List ℕ → ℕ
sum_over f [] = 0
sum_over f (q ∷ qs) = f q + sum_over f qs

sum-same : (f g : ℕ → ℕ) (qs : List ℕ) → ((q : ℕ) → f q ≡ g q) → sum_over f qs ≡ sum_over g qs
sum-same f g qs h = ap (λ (k : ℕ → ℕ). sum_over k qs) (λ i q. h q i)

sum-zero : (qs : List ℕ) → sum_over (λ q. 0) qs ≡ 0
sum-zero [] = refl
sum-zero (q ∷ qs) = let rest = sum-zero qs in omega (arith, rest)

sum-add : (f g : ℕ → ℕ) (qs : List ℕ) → sum_over (λ q. f q + g q) qs ≡ sum_over f qs + sum_over g qs
sum-add f g [] = omega arith
sum-add f g (q ∷ qs) = let rest = sum-add f g qs in omega (arith, rest)

-- of distinct queues, one at most is of a number
sum-at : (n k : ℕ) (qs : List ℕ) → are_distinct qs ≡ true → sum_over (λ q. if n == q then k else 0) qs ≡ (if stands_in n qs then k else 0)
sum-at n k [] distinct = refl
sum-at n k (q ∷ qs) distinct = search (rules, (sum-at n k qs))

-- a sender sends to one queue of the device that it is of
sends-sum : (senders : List SenderSpec) (queues : List Room) (d s k : ℕ) (qs : List ℕ) → AreRising (map number_of senders) → are_distinct qs ≡ true → ((q : ℕ) → stands_in q qs ≡ is_at d (slice_get queues q))
    → sum_over (λ q. if sends_to senders s q then k else 0) qs ≡ (if list_any (λ (x : SenderSpec). (x.number == s) && is_of_device queues d x) senders then k else 0)
sends-sum [] queues d s k qs rising distinct at = sum-zero qs
sends-sum (x ∷ senders) queues d s k qs rising distinct at = by_number (x.number == s) refl (sends-sum senders queues d s k qs rising.1 distinct at)
  where
    by_number : (t : Bool) → (x.number == s) ≡ t
        → sum_over (λ q. if sends_to senders s q then k else 0) qs ≡ (if list_any (λ (y : SenderSpec). (y.number == s) && is_of_device queues d y) senders then k else 0)
        → sum_over (λ q. if (t && (x.queue == q)) || sends_to senders s q then k else 0) qs ≡ (if (t && is_of_device queues d x) || list_any (λ (y : SenderSpec). (y.number == s) && is_of_device queues d y) senders then k else 0)
    by_number false e rest = rest
    by_number true e rest =
        let same : x.number ≡ s = grind (arith, nat_tests) in
        sum-same (λ q. if (x.queue == q) || sends_to senders s q then k else 0) (λ q. if x.queue == q then k else 0) qs (λ q. ap (λ b. if (x.queue == q) || b then k else 0) (none-later senders s x.number (λ y. y.queue == q) same rising.0) ∙ or_none (x.queue == q))
        ∙ sum-at x.queue k qs distinct ∙ ap (λ b. if b then k else 0) (at x.queue) ∙ sym (or_none (is_of_device queues d x))
        ∙ ap (λ b. if is_of_device queues d x || b then k else 0) (sym (none-later senders s x.number (is_of_device queues d) same rising.0))
      where
        or_none : (b : Bool) → (if b || false then k else 0) ≡ (if b then k else 0)
        or_none true = refl
        or_none false = refl

-- what an event's packet, if it has one, counts
abbrev one_of : Option Packet → ℕ
one_of o = length (cons_option o [])

total-sends : (weight : QueueEvent → ℕ) (b : Bool) (p : Packet) (outcome : Offered) → total weight (if b then offer_events p outcome else []) ≡ (if b then total weight (offer_events p outcome) else 0)
total-sends weight true p outcome = refl
total-sends weight false p outcome = refl

counts-sum : (weight : QueueEvent → ℕ) (f : Event → Option Packet) → ((p : Packet) (outcome : Offered) → total weight (offer_events p outcome) ≡ one_of (f (offered p outcome))) → ((o : Option Packet) → weight (pull_event o) ≡ 0)
    → ((d m : ℕ) (visits : List Visit) → f (pulled d m visits) ≡ None) → (setup : Setup) (d : ℕ) (tree : Tree) → AreQueuesOf setup d tree → (events : List Event) → AllByRecursion (λ e. happens_at setup d e ≡ true) events
    → sum_over (λ q. total weight (history setup q events)) (leaves (root tree)) ≡ length (filter_map f events)
counts-sum weight f offers answers none setup d tree of [] h = sum-zero (leaves (root tree))
counts-sum weight f offers answers none setup d tree of (e ∷ events) h =
    sum-same (λ q. total weight (at_queue setup q e ++ history setup q events)) (λ q. total weight (at_queue setup q e) + total weight (history setup q events)) (leaves (root tree)) (λ q. total-append weight (at_queue setup q e) (history setup q events))
    ∙ sum-add (λ q. total weight (at_queue setup q e)) (λ q. total weight (history setup q events)) (leaves (root tree))
    ∙ ap₂ (λ m n. m + n) (by_event e h.0) (counts-sum weight f offers answers none setup d tree of events h.1) ∙ more (f e)
  where
    more : (o : Option Packet) → one_of o + length (filter_map f events) ≡ length (cons_option o (filter_map f events))
    more None = omega arith
    more (Some p) = omega arith

    none-given : (o : Option Tree) (q : ℕ) (visits : List Visit) → total weight (answers_in o q visits) ≡ 0
    none-given None q visits = refl
    none-given (Some t) q [] = refl
    none-given (Some t) q (v ∷ visits) = total-append weight (asked (asks_queue t q v)) (answers_in (Some t) q visits) ∙ ap₂ (λ m n. m + n) (by_test (asks_queue t q v)) (none-given (Some t) q visits)
      where
        asked : Bool → List QueueEvent
        asked b = if b then pull_event v.got ∷ [] else []

        by_test : (b : Bool) → total weight (asked b) ≡ 0
        by_test true = let zero_is = answers v.got in omega (arith, zero_is)
        by_test false = refl

    by_event : (e : Event) → happens_at setup d e ≡ true → sum_over (λ q. total weight (at_queue setup q e)) (leaves (root tree)) ≡ one_of (f e)
    by_event (offered p outcome) does =
        sum-same (λ q. total weight (at_queue setup q (offered p outcome))) (λ q. if sends_to setup.senders p.sender q then total weight (offer_events p outcome) else 0) (leaves (root tree)) (λ q. total-sends weight (sends_to setup.senders p.sender q) p outcome)
        ∙ sends-sum setup.senders setup.queues d p.sender (total weight (offer_events p outcome)) (leaves (root tree)) of.senders of.distinct of.leaves_are
        ∙ ap (λ b. if b then total weight (offer_events p outcome) else 0) does ∙ offers p outcome
    by_event (pulled c m visits) does =
        sum-same (λ q. total weight (answers_in (slice_get setup.trees c) q visits)) (λ q. 0) (leaves (root tree)) (λ q. none-given (slice_get setup.trees c) q visits) ∙ sum-zero (leaves (root tree)) ∙ ap one_of (sym (none c m visits))

-- What a queue gave in the events at its device is what its leaf gave.
gives-visits : (tree : Tree) (q : ℕ) (visits : List Visit) → filter_map given_by (answers_in (Some tree) q visits) ≡ leaf_packets tree q visits
gives-visits tree q [] = refl
gives-visits tree q (v ∷ visits) = search (rules, (gives-visits tree q visits))

pub gives-log : (setup : Setup) (d : ℕ) (tree : Tree) → slice_get setup.trees d ≡ Some tree → (q : ℕ) (events : List Event) → AllByRecursion (λ e. happens_at setup d e ≡ true) events
    → filter_map given_by (history setup q events) ≡ leaf_packets tree q (log_of events)
gives-log setup d tree its q [] h = refl
gives-log setup d tree its q (offered p outcome ∷ events) h =
    filter_map-append given_by (at_queue setup q (offered p outcome)) (history setup q events) ∙ ap (λ l. l ++ filter_map given_by (history setup q events)) (by_test (sends_to setup.senders p.sender q) outcome) ∙ gives-log setup d tree its q events h.1
  where
    by_test : (b : Bool) (o : Offered) → filter_map given_by (if b then offer_events p o else []) ≡ []
    by_test b o = search rules
gives-log setup d tree its q (pulled c m visits ∷ events) h = search (rules, filter_map-append, gives-visits, (gives-log setup d tree its q events h.1))

total-given : (events : List QueueEvent) → total is_give events ≡ length (filter_map given_by events)
total-given [] = refl
total-given (accept p ∷ events) = let rest = total-given events in omega (arith, rest)
total-given (refuse p ∷ events) = let rest = total-given events in omega (arith, rest)
total-given (evict p ∷ events) = let rest = total-given events in omega (arith, rest)
total-given (give p ∷ events) = let rest = total-given events in omega (arith, rest)
total-given (empty ∷ events) = let rest = total-given events in omega (arith, rest)

gives-sum : (tree : Tree) (log : List Visit) (qs : List ℕ) → sum_over (λ q. length (leaf_packets tree q log)) qs ≡ given_in_all tree qs log
gives-sum tree log [] = refl
gives-sum tree log (q ∷ qs) = ap (λ n. length (leaf_packets tree q log) + n) (gives-sum tree log qs)

held-sum : (held_at : ℕ → ℕ) (qs : List ℕ) → sum_over held_at qs ≡ held_in_all held_at qs
held-sum held_at [] = refl
held-sum held_at (q ∷ qs) = ap (λ n. held_at q + n) (held-sum held_at qs)

-- what each queue of some took in, put out, gave and holds, together
counts-all : (setup : Setup) (events : List Event) (qs : List ℕ)
    → ((q : ℕ) → stands_in q qs ≡ true → total is_accept (history setup q events) ≡ total is_evict (history setup q events) + total is_give (history setup q events) + length (held (history setup q events)))
    → sum_over (λ q. total is_accept (history setup q events)) qs
    ≡ sum_over (λ q. total is_evict (history setup q events)) qs + sum_over (λ q. total is_give (history setup q events)) qs + sum_over (λ q. length (held (history setup q events))) qs
counts-all setup events [] h = omega arith
counts-all setup events (q ∷ qs) h =
    let here = h q (let same : (q == q) ≡ true = grind (arith, nat_tests) in ap (λ b. b || stands_in q qs) same) in
    let rest = counts-all setup events qs (λ r s. h r (or_later (q == r) s)) in
    omega (arith, here, rest)
  where
    or_later : {c : Bool} (b : Bool) → c ≡ true → (b || c) ≡ true
    or_later true e = refl
    or_later false e = e

-- What queues and heads of a device hold is what its events leave: what was accepted was put out, or came out, or is held.
pub left-is : (setup : Setup) (d : ℕ) (tree : Tree) → AreQueuesOf setup d tree → (events : List Event) → AllByRecursion (λ e. happens_at setup d e ≡ true) events
    → ((q : ℕ) → MatchOption (slice_get setup.queues q) ⊤ (λ (room : Room). IsInOrder room.capacity (history setup q events)))
    → given_in_all tree (leaves (root tree)) (log_of events) ≡ length (emitted (log_of events)) + length (heads tree (log_of events)) → left_in tree (log_of events) (λ q. length (held (history setup q events))) + length (filter_map evicted_in events) + length (emitted (log_of events)) ≡ length (filter_map accepted_in events)
left-is setup d tree of events here histories conserved =
    let all = counts-all setup events (leaves (root tree)) each in
    let a = counts-sum is_accept accepted_in (λ p. accepted-one p) pull-none (λ c m v. refl) setup d tree of events here in
    let e = counts-sum is_evict evicted_in (λ p. evicted-one p) evict-none (λ c m v. refl) setup d tree of events here in
    let g = sum-same (λ q. total is_give (history setup q events)) (λ q. length (leaf_packets tree q (log_of events))) (leaves (root tree)) (λ q. total-given (history setup q events) ∙ ap length (gives-log setup d tree of.its q events here)) ∙ gives-sum tree (log_of events) (leaves (root tree)) in
    let h = held-sum (λ q. length (held (history setup q events))) (leaves (root tree)) in
    omega (arith, all, a, e, g, h, conserved)
  where
    each : (q : ℕ) → stands_in q (leaves (root tree)) ≡ true → total is_accept (history setup q events) ≡ total is_evict (history setup q events) + total is_give (history setup q events) + length (held (history setup q events))
    each q s = by_room (slice_get setup.queues q) (histories q) (sym (of.leaves_are q) ∙ s)
      where
        by_room : (o : Option Room) → MatchOption o ⊤ (λ (room : Room). IsInOrder room.capacity (history setup q events)) → is_at d o ≡ true
            → total is_accept (history setup q events) ≡ total is_evict (history setup q events) + total is_give (history setup q events) + length (held (history setup q events))
        by_room None h at = absurd (false≢true at)
        by_room (Some room) h at = history-counts room.capacity (history setup q events) h

    accepted-one : (p : Packet) (outcome : Offered) → total is_accept (offer_events p outcome) ≡ one_of (accepted_in (offered p outcome))
    accepted-one p Accepted = refl
    accepted-one p (Refused r) = refl
    accepted-one p (Evicted front) = refl

    evicted-one : (p : Packet) (outcome : Offered) → total is_evict (offer_events p outcome) ≡ one_of (evicted_in (offered p outcome))
    evicted-one p Accepted = refl
    evicted-one p (Refused r) = refl
    evicted-one p (Evicted front) = refl

    pull-none : (o : Option Packet) → is_accept (pull_event o) ≡ 0
    pull-none None = refl
    pull-none (Some p) = refl

    evict-none : (o : Option Packet) → is_evict (pull_event o) ≡ 0
    evict-none None = refl
    evict-none (Some p) = refl
