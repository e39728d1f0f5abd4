-- What happens at a device can happen alone.
use Rattle.std.proofs.Common.{◌≡◌, ℕ, ◌<◌, ◌==◌, ◌&&◌, List, [], ◌∷◌, length, map, filter, Bool, true, false, if◌then◌else◌, Option, Some, None, IfSome, MatchOption, slice_get, refl, sym, ◌∙◌, subst, arith, rules}
use Rattle.std.specs.Bool.{⊤}
use Rattle.std.specs.List.{flat_map, filter_map, range_with_len, AllByRecursion, list_any}
use Rattle.std.proofs.lemmas.Bool.{false≢true}
use Rattle.std.proofs.lemmas.Bool.Decides.{nat_tests}
use Rattle.clk_ring.specs.QueueHistory.{IsQueueHistory}
use Rattle.clk_sched.specs.declared.visit.Visit.{Visit}
use Rattle.clk_sched.specs.Tree.{Tree, queue_at}
use Rattle.clk_sched.specs.Run.{IsRun}
use Rattle.clk_tree.specs.declared.plan.parts.SenderSpec.{SenderSpec}
use Rattle.clk_packet.specs.Lists.{AreRising}
use Rattle.clk_tree.specs.PlanParts.{number_of}
use Rattle.clk_router.specs.Events.{Room, Setup, Event, offered, pulled, is_of_device, happens_at, events_at, number_from, numbers_of, sends_to, answers_in, at_queue, history, IsOfDevice, IsOfSender, NamesItsOffer, RunsTree, CanHappen}
use Rattle.clk_router.specs.inside.Closable.{is_at}
use Rattle.clk_router.specs.Settled.{sends_at}
use Rattle.clk_router.specs.Setups.{IsApart}

-- no sender of a greater number is of this one
pub none-later : (senders : List SenderSpec) (s n : ℕ) (P : SenderSpec → Bool) → n ≡ s → AllByRecursion (λ m. n < m) (map number_of senders)
    → list_any (λ (x : SenderSpec). (x.number == s) && P x) senders ≡ false
none-later [] s n P e h = refl
none-later (x ∷ senders) s n P e h = search (rules, (none-later senders s n P e h.1))

-- where senders rise, one alone is of a number
pub one-sender : (senders : List SenderSpec) (s : ℕ) (P Q : SenderSpec → Bool) → AreRising (map number_of senders) → list_any (λ (x : SenderSpec). (x.number == s) && P x) senders ≡ true
    → list_any (λ (x : SenderSpec). (x.number == s) && Q x) senders ≡ true → (x : SenderSpec) × (P x ≡ true) × (Q x ≡ true)
one-sender [] s P Q rising a b = absurd (false≢true a)
one-sender (x ∷ senders) s P Q rising a b = search (rules, none-later, (one-sender senders s P Q rising.1))

-- a sender sends to one queue
pub one-queue : (senders : List SenderSpec) (s k q : ℕ) → AreRising (map number_of senders) → sends_to senders s k ≡ true → sends_to senders s q ≡ true → k ≡ q
one-queue senders s k q rising a b =
    let its = one-sender senders s (λ x. x.queue == k) (λ x. x.queue == q) rising a b in
    let first = its.1 in
    let second = its.2 in
    grind (arith, nat_tests, first, second)

-- who sends to a queue of a device is of that device
pub sent-here : (queues : List Room) (senders : List SenderSpec) (s q d : ℕ) → is_at d (slice_get queues q) ≡ true → sends_to senders s q ≡ true
    → list_any (λ (x : SenderSpec). (x.number == s) && is_of_device queues d x) senders ≡ true
sent-here queues [] s q d at e = absurd (false≢true e)
sent-here queues (x ∷ senders) s q d at e = search (rules, (sent-here queues senders s q d at))

-- a device's pulls ask no queue that isn't its own
pub no-answers : (o : Option Tree) (q : ℕ) (visits : List Visit) → MatchOption o ⊤ (λ tree. (x input : ℕ) → queue_at tree x input ≡ Some q → ⊥) → answers_in o q visits ≡ []
no-answers None q visits never = refl
no-answers (Some tree) q [] never = refl
no-answers (Some tree) q (v ∷ visits) never = search (rules, (no-answers (Some tree) q visits never))

pub never-asks : (setup : Setup) → IsApart setup → (d q : ℕ) (room : Room) → slice_get setup.queues q ≡ Some room → (room.device == d) ≡ false
    → MatchOption (slice_get setup.trees d) ⊤ (λ tree. (x input : ℕ) → queue_at tree x input ≡ Some q → ⊥)
never-asks setup apart d q room is other = by_tree (slice_get setup.trees d) (apart.leaves d)
  where
    by_tree : (o : Option Tree) → ((x input : ℕ) → MatchOption o ⊤ (λ tree. IfSome (queue_at tree x input) (λ k. IfSome (slice_get setup.queues k) (λ r. r.device ≡ d))))
        → MatchOption o ⊤ (λ tree. (x input : ℕ) → queue_at tree x input ≡ Some q → ⊥)
    by_tree None h = tt
    by_tree (Some tree) h = λ x input e.
        let its = subst (λ o. IfSome o (λ k. IfSome (slice_get setup.queues k) (λ (r : Room). r.device ≡ d))) e (h x input) in
        let device : room.device ≡ d = subst (λ o. IfSome o (λ (r : Room). r.device ≡ d)) is its in
        absurd (grind (arith, nat_tests, device, other))

-- what happens elsewhere is nothing to a queue of a device, and what happens there is nothing to one of another
pub elsewhere : (setup : Setup) → IsApart setup → (d q : ℕ) (room : Room) → slice_get setup.queues q ≡ Some room → (room.device == d) ≡ true → (e : Event) → happens_at setup d e ≡ false → at_queue setup q e ≡ []
elsewhere setup apart d q room is here (offered p outcome) isnt = by_sends (sends_to setup.senders p.sender q) refl
  where
    by_sends : (b : Bool) → sends_to setup.senders p.sender q ≡ b → at_queue setup q (offered p outcome) ≡ []
    by_sends true e = absurd (false≢true (sym isnt ∙ sent-here setup.queues setup.senders p.sender q d (rw is here) e))
    by_sends false e = rw e refl
elsewhere setup apart d q room is here (pulled c m visits) isnt =
    let other : (room.device == c) ≡ false = grind (arith, nat_tests, here, isnt) in
    no-answers (slice_get setup.trees c) q visits (never-asks setup apart c q room is other)

of-another : (setup : Setup) → IsApart setup → (d q : ℕ) (room : Room) → slice_get setup.queues q ≡ Some room → (room.device == d) ≡ false → (e : Event) → happens_at setup d e ≡ true → at_queue setup q e ≡ []
of-another setup apart d q room is other (offered p outcome) does = by_sends (sends_to setup.senders p.sender q) refl
  where
    by_sends : (b : Bool) → sends_to setup.senders p.sender q ≡ b → at_queue setup q (offered p outcome) ≡ []
    by_sends true e =
        let its = one-sender setup.senders p.sender (λ x. x.queue == q) (is_of_device setup.queues d) apart.senders e does in
        let here : is_of_device setup.queues d its.0 ≡ true = its.2 in
        let at : its.0.queue ≡ q = grind (arith, nat_tests, its.1) in
        let device : is_at d (slice_get setup.queues q) ≡ true = subst (λ n. is_at d (slice_get setup.queues n) ≡ true) at here in
        let yes : (room.device == d) ≡ true = subst (λ o. is_at d o ≡ true) is device in
        absurd (false≢true (sym other ∙ yes))
    by_sends false e = rw e refl
of-another setup apart d q room is other (pulled c m visits) does = search (rules, no-answers, never-asks)

-- what a filter leaves out is nothing to who looks at none of it
kept-all : {X Y : Type 0} (p : X → Bool) (h : X → Option Y) (xs : List X) → ((x : X) → p x ≡ false → h x ≡ None) → filter_map h (filter p xs) ≡ filter_map h xs
kept-all p h [] none = refl
kept-all p h (x ∷ xs) none = search (rules, (kept-all p h xs none))

kept-none : {X Y : Type 0} (p : X → Bool) (h : X → Option Y) (xs : List X) → ((x : X) → p x ≡ true → h x ≡ None) → filter_map h (filter p xs) ≡ []
kept-none p h [] none = refl
kept-none p h (x ∷ xs) none = search (rules, (kept-none p h xs none))

flat-all : {X Y : Type 0} (p : X → Bool) (h : X → List Y) (xs : List X) → ((x : X) → p x ≡ false → h x ≡ []) → flat_map h (filter p xs) ≡ flat_map h xs
flat-all p h [] none = refl
flat-all p h (x ∷ xs) none = search (rules, (flat-all p h xs none))

flat-none : {X Y : Type 0} (p : X → Bool) (h : X → List Y) (xs : List X) → ((x : X) → p x ≡ true → h x ≡ []) → flat_map h (filter p xs) ≡ []
flat-none p h [] none = refl
flat-none p h (x ∷ xs) none = search (rules, (flat-none p h xs none))

all-kept : {X : Type 0} (P : X → Type 0) (p : X → Bool) (xs : List X) → AllByRecursion P xs → AllByRecursion P (filter p xs)
all-kept P p [] h = tt
all-kept P p (x ∷ xs) h = search (rules, (all-kept P p xs h.1))

kept-twice : {X : Type 0} (p : X → Bool) (xs : List X) → filter p (filter p xs) ≡ filter p xs
kept-twice p [] = refl
kept-twice p (x ∷ xs) = search (rules, (kept-twice p xs))

-- no event is of a sender whose packets go another way than it does
unnumbered : (setup : Setup) (d s : ℕ) (x : Event) → (happens_at setup d x ≡ sends_at setup d s → ⊥) → number_from s x ≡ None
unnumbered setup d s (pulled c m v) other = refl
unnumbered setup d s (offered p outcome) other = search rules

-- a sender's packets are all offered at a device, or none is
pub numbers-at : (setup : Setup) (d s : ℕ) (events : List Event) → (b : Bool) → sends_at setup d s ≡ b → numbers_of s (events_at setup d events) ≡ (if b then numbers_of s events else [])
numbers-at setup d s events true e = kept-all (happens_at setup d) (number_from s) events (λ x isnt. unnumbered setup d s x (λ same. false≢true (sym isnt ∙ same ∙ e)))
numbers-at setup d s events false e = kept-none (happens_at setup d) (number_from s) events (λ x does. unnumbered setup d s x (λ same. false≢true (sym e ∙ sym same ∙ does)))

-- an offer
IsOffer : Event → Type 0
IsOffer (offered p outcome) = ⊤
IsOffer (pulled device moment visits) = ⊥

-- offers alone are a run of any tree
offers-run : (tree : Tree) → IsRun tree [] → (events : List Event) → AllByRecursion IsOffer events → RunsTree tree events
unfolding IsOffer
offers-run tree start [] h = record { run = start; pull_by_pull = refl; moments = refl }
offers-run tree start (offered p outcome ∷ events) h = let rest = offers-run tree start events h.1 in record { run = rest.run; pull_by_pull = rest.pull_by_pull; moments = rest.moments }
offers-run tree start (pulled c m v ∷ events) h = absurd h.0

-- there are no pulls of another device among those of one
no-pulls : (setup : Setup) (d c : ℕ) (events : List Event) → (c == d) ≡ false → AllByRecursion IsOffer (events_at setup c (events_at setup d events))
unfolding IsOffer
no-pulls setup d c [] other = tt
no-pulls setup d c (e ∷ events) other = search (rules, (no-pulls setup d c events other))

-- what happened to a queue of a device happened there
pub history-alone : (setup : Setup) → IsApart setup → (d q : ℕ) (room : Room) → slice_get setup.queues q ≡ Some room → (room.device == d) ≡ true → (events : List Event) → history setup q (events_at setup d events) ≡ history setup q events
history-alone setup apart d q room is e events = flat-all (happens_at setup d) (at_queue setup q) events (elsewhere setup apart d q room is e)

-- what happens at a device can happen alone
pub alone : (setup : Setup) → IsApart setup → ((tree : Tree) → IsRun tree []) → (d : ℕ) (events : List Event) → CanHappen setup events → CanHappen setup (events_at setup d events)
alone setup apart start d events can = record {
  senders = all-kept (IsOfSender setup) (happens_at setup d) events can.senders;
  numbered = numbered;
  devices = all-kept (IsOfDevice (length setup.trees)) (happens_at setup d) events can.devices;
  runs = runs;
  refusals = all-kept NamesItsOffer (happens_at setup d) events can.refusals;
  histories = λ q. by_room q (slice_get setup.queues q) refl;
}
  where
    numbered : (s : ℕ) → numbers_of s (events_at setup d events) ≡ range_with_len 0 (length (numbers_of s (events_at setup d events)))
    numbered s = by_sender _ refl
      where
        by_sender : (b : Bool) → list_any (λ (x : SenderSpec). (x.number == s) && is_of_device setup.queues d x) setup.senders ≡ b
            → numbers_of s (events_at setup d events) ≡ range_with_len 0 (length (numbers_of s (events_at setup d events)))
        by_sender true e = rw (numbers-at setup d s events true e) (can.numbered s)
        by_sender false e = rw (numbers-at setup d s events false e) refl

    runs : (c : ℕ) → MatchOption (slice_get setup.trees c) ⊤ (λ tree. RunsTree tree (events_at setup c (events_at setup d events)))
    runs c = by_device (c == d) refl
      where
        by_tree : (o : Option Tree) → AllByRecursion IsOffer (events_at setup c (events_at setup d events)) → MatchOption o ⊤ (λ tree. RunsTree tree (events_at setup c (events_at setup d events)))
        by_tree None h = tt
        by_tree (Some tree) h = offers-run tree (start tree) _ h

        by_device : (b : Bool) → (c == d) ≡ b → MatchOption (slice_get setup.trees c) ⊤ (λ tree. RunsTree tree (events_at setup c (events_at setup d events)))
        by_device true e =
            let same : c ≡ d = grind (arith, nat_tests) in
            subst (λ n. MatchOption (slice_get setup.trees n) ⊤ (λ tree. RunsTree tree (events_at setup n (events_at setup d events)))) (sym same)
            (subst (λ l. MatchOption (slice_get setup.trees d) ⊤ (λ tree. RunsTree tree l)) (sym (kept-twice (happens_at setup d) events)) (can.runs d))
        by_device false e = by_tree (slice_get setup.trees c) (no-pulls setup d c events e)

    by_room : (q : ℕ) (o : Option Room) → slice_get setup.queues q ≡ o → MatchOption (slice_get setup.queues q) ⊤ (λ (room : Room). IsQueueHistory room.kind room.capacity (history setup q (events_at setup d events)))
    by_room q None is = rw is tt
    by_room q (Some room) is = by_device (room.device == d) refl
      where
        by_device : (b : Bool) → (room.device == d) ≡ b → MatchOption (slice_get setup.queues q) ⊤ (λ (r : Room). IsQueueHistory r.kind r.capacity (history setup q (events_at setup d events)))
        by_device true e =
            subst (λ l. MatchOption (slice_get setup.queues q) ⊤ (λ (r : Room). IsQueueHistory r.kind r.capacity l)) (sym (history-alone setup apart d q room is e events)) (can.histories q)
        by_device false e =
            subst (λ l. MatchOption (slice_get setup.queues q) ⊤ (λ (r : Room). IsQueueHistory r.kind r.capacity l)) (sym (flat-none (happens_at setup d) (at_queue setup q) events (of-another setup apart d q room is e)))
            (subst (λ o. MatchOption o ⊤ (λ (r : Room). IsQueueHistory r.kind r.capacity [])) (sym is) (record { order = refl; fits = omega arith }))
