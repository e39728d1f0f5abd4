-- The packets of a queue's history, by what events offered and what a device's log shows.
use Rattle.std.proofs.Common.{◌≡◌, inl, inr, ℕ, true, false, List, [], ◌∷◌, ◌++◌, append-nil, append_assoc, Option, Some, None, slice_get, refl, sym, ap, ap₂, ◌∙◌, subst, rules}
use Rattle.std.specs.Bool.{⊤}
use Rattle.std.specs.List.{filter_map, cons_option, AllByRecursion}
use Rattle.std.proofs.lemmas.List.{append_cancel_left}
use Rattle.std.proofs.lemmas.List.Elements.{filter_map-append}
use Rattle.clk_packet.specs.declared.packet.Packet.{Packet}
use Rattle.clk_packet.specs.declared.packet.Kind.{Kind}
use Rattle.clk_packet.specs.declared.packet.Kind.TheVariants.{TailDrop, FrontDrop}
use Rattle.clk_packet.specs.declared.packet.Offered.{Offered}
use Rattle.clk_packet.specs.declared.packet.Offered.TheVariants.{Evicted}
use Rattle.clk_packet.specs.Lists.{of_sender}
use Rattle.clk_ring.specs.QueueHistory.{QueueEvent, accept, refuse, evict, give, empty, accepted, gone, held, IsInOrder, EachStands, IsQueueHistory, offer_events, pull_event}
use Rattle.clk_sched.specs.declared.visit.Visit.{Visit}
use Rattle.clk_sched.specs.Tree.{Tree}
use Rattle.clk_sched.proofs.Callers.Lists.{all-split}
use Rattle.clk_packet.specs.Dealt.{IsDealt}
use Rattle.clk_router.specs.Events.{Setup, Event, offered, pulled, sends_to, answers_in, at_queue, history}
use Rattle.clk_router.specs.InsideQueues.{given_by}
use Rattle.clk_router.proofs.PartsLemmas.{history-with}
use Rattle.clk_router.proofs.QueueCounts.{stands-first, stands-rest}

-- the packet that an event of a queue accepted, refused or evicted
abbrev pub accepted_by : QueueEvent → Option Packet
accepted_by (accept p) = Some p
accepted_by event = None

abbrev pub refused_by : QueueEvent → Option Packet
refused_by (refuse p) = Some p
refused_by event = None

abbrev pub evicted_by : QueueEvent → Option Packet
evicted_by (evict p) = Some p
evicted_by event = None

pub accepted-is : (events : List QueueEvent) → accepted events ≡ filter_map accepted_by events
accepted-is [] = refl
accepted-is (accept p ∷ events) = ap (λ l. p ∷ l) (accepted-is events)
accepted-is (refuse p ∷ events) = accepted-is events
accepted-is (evict p ∷ events) = accepted-is events
accepted-is (give p ∷ events) = accepted-is events
accepted-is (empty ∷ events) = accepted-is events

-- what is gone is dealt to what was evicted and what was given
pub gone-dealt : (events : List QueueEvent) → IsDealt (gone events) (filter_map evicted_by events) (filter_map given_by events)
gone-dealt [] = (refl, refl)
gone-dealt (accept p ∷ events) = gone-dealt events
gone-dealt (refuse p ∷ events) = gone-dealt events
gone-dealt (evict p ∷ events) = inl (filter_map evicted_by events, refl, gone-dealt events)
gone-dealt (give p ∷ events) = inr (filter_map given_by events, refl, gone-dealt events)
gone-dealt (empty ∷ events) = gone-dealt events

-- what holds of all that is gone holds of all that was evicted, and of all that was given
pub all-evicted : (P : Packet → Type 0) (events : List QueueEvent) → AllByRecursion P (gone events) → AllByRecursion P (filter_map evicted_by events)
all-evicted P [] h = tt
all-evicted P (accept p ∷ events) h = all-evicted P events h
all-evicted P (refuse p ∷ events) h = all-evicted P events h
all-evicted P (evict p ∷ events) h = (h.0, all-evicted P events h.1)
all-evicted P (give p ∷ events) h = all-evicted P events h.1
all-evicted P (empty ∷ events) h = all-evicted P events h

pub all-given : (P : Packet → Type 0) (events : List QueueEvent) → AllByRecursion P (gone events) → AllByRecursion P (filter_map given_by events)
all-given P [] h = tt
all-given P (accept p ∷ events) h = all-given P events h
all-given P (refuse p ∷ events) h = all-given P events h
all-given P (evict p ∷ events) h = all-given P events h.1
all-given P (give p ∷ events) h = (h.0, all-given P events h.1)
all-given P (empty ∷ events) h = all-given P events h

pub all-gone : (P : Packet → Type 0) (capacity : ℕ) (events : List QueueEvent) → IsInOrder capacity events → AllByRecursion P (accepted events) → AllByRecursion P (gone events)
all-gone P capacity events order h = (all-split P (gone events) (held events) (subst (AllByRecursion P) order.order h)).0

-- a history is in order
pub history-in_order : (kind : Kind) (capacity : ℕ) (events : List QueueEvent) → IsQueueHistory kind capacity events → IsInOrder capacity events
history-in_order kind capacity events h = stands-first kind capacity events [] (stands-rest kind capacity [] events [] (subst (EachStands kind capacity []) (sym (append-nil events)) h))

-- a FrontDropQueue refuses none, and a Queue evicts none
pub none-refused : (kind : Kind) (capacity : ℕ) (before events : List QueueEvent) → kind ≡ FrontDrop → EachStands kind capacity before events → filter_map refused_by events ≡ []
none-refused kind capacity before [] is h = refl
none-refused kind capacity before (accept p ∷ events) is h = none-refused kind capacity (before ++ accept p ∷ []) events is h.3
none-refused kind capacity before (refuse p ∷ events) is h = let kind_is = h.1.0 in absurd (cc)
none-refused kind capacity before (evict p ∷ events) is h = none-refused kind capacity (before ++ evict p ∷ []) events is h.3
none-refused kind capacity before (give p ∷ events) is h = none-refused kind capacity (before ++ give p ∷ []) events is h.3
none-refused kind capacity before (empty ∷ events) is h = none-refused kind capacity (before ++ empty ∷ []) events is h.3

pub none-evicted : (kind : Kind) (capacity : ℕ) (before events : List QueueEvent) → kind ≡ TailDrop → EachStands kind capacity before events → filter_map evicted_by events ≡ []
none-evicted kind capacity before [] is h = refl
none-evicted kind capacity before (accept p ∷ events) is h = none-evicted kind capacity (before ++ accept p ∷ []) events is h.3
none-evicted kind capacity before (refuse p ∷ events) is h = none-evicted kind capacity (before ++ refuse p ∷ []) events is h.3
none-evicted kind capacity before (evict p ∷ events) is h = let kind_is = h.1.0 in absurd (cc)
none-evicted kind capacity before (give p ∷ events) is h = none-evicted kind capacity (before ++ give p ∷ []) events is h.3
none-evicted kind capacity before (empty ∷ events) is h = none-evicted kind capacity (before ++ empty ∷ []) events is h.3

-- the answers to a pull are no offers
pub none-answered : (g : QueueEvent → Option Packet) → ((o : Option Packet) → g (pull_event o) ≡ None) → (o : Option Tree) (q : ℕ) (visits : List Visit) → filter_map g (answers_in o q visits) ≡ []
none-answered g pull None q visits = refl
none-answered g pull (Some tree) q [] = refl
none-answered g pull (Some tree) q (v ∷ visits) = search (rules, (none-answered g pull (Some tree) q visits))

-- the packet that is gone by an event
abbrev gone_by : QueueEvent → Option Packet
gone_by (evict p) = Some p
gone_by (give p) = Some p
gone_by event = None

gone-is : (events : List QueueEvent) → gone events ≡ filter_map gone_by events
gone-is [] = refl
gone-is (accept p ∷ events) = gone-is events
gone-is (refuse p ∷ events) = gone-is events
gone-is (evict p ∷ events) = ap (λ l. p ∷ l) (gone-is events)
gone-is (give p ∷ events) = ap (λ l. p ∷ l) (gone-is events)
gone-is (empty ∷ events) = gone-is events

pub accepted-more : (xs ys : List QueueEvent) → accepted (xs ++ ys) ≡ accepted xs ++ accepted ys
accepted-more xs ys = accepted-is (xs ++ ys) ∙ filter_map-append accepted_by xs ys ∙ ap₂ (λ a b. a ++ b) (sym (accepted-is xs)) (sym (accepted-is ys))

pub gone-more : (xs ys : List QueueEvent) → gone (xs ++ ys) ≡ gone xs ++ gone ys
gone-more xs ys = gone-is (xs ++ ys) ∙ filter_map-append gone_by xs ys ∙ ap₂ (λ a b. a ++ b) (sym (gone-is xs)) (sym (gone-is ys))

-- the packets that are gone by a pull are those that it was given
gone-given : (o : Option Tree) (q : ℕ) (visits : List Visit) → gone (answers_in o q visits) ≡ filter_map given_by (answers_in o q visits)
gone-given None q visits = refl
gone-given (Some tree) q [] = refl
gone-given (Some tree) q (v ∷ visits) = search (rules, (gone-given (Some tree) q visits))

-- What a queue held before a pull is what it gave in the pull, and then what it holds after it.
pub held-before : (setup : Setup) (q capacity : ℕ) (events : List Event) (device moment : ℕ) (visits : List Visit) → IsInOrder capacity (history setup q events)
    → IsInOrder capacity (history setup q (events ++ pulled device moment visits ∷ []))
    → held (history setup q events) ≡ filter_map given_by (at_queue setup q (pulled device moment visits)) ++ held (history setup q (events ++ pulled device moment visits ∷ []))
held-before setup q capacity events device moment visits order next =
    append_cancel_left (gone past) (held past) (given ++ held more)
    (sym order.order ∙ sym took ∙ next.order ∙ ap (λ l. l ++ held more) went ∙ append_assoc (gone past) given (held more))
  where
    past : List QueueEvent
    past = history setup q events

    more : List QueueEvent
    more = history setup q (events ++ pulled device moment visits ∷ [])

    answers : List QueueEvent
    answers = at_queue setup q (pulled device moment visits)

    given : List Packet
    given = filter_map given_by answers

    goes_on : more ≡ past ++ answers
    goes_on = history-with setup q events (pulled device moment visits)

    took : accepted more ≡ accepted past
    took = search (rules, accepted-more, accepted-is, none-answered, goes_on)

    went : gone more ≡ gone past ++ given
    went = ap gone goes_on ∙ gone-more past answers ∙ ap (λ l. gone past ++ l) (gone-given (slice_get setup.trees device) q visits)

-- an event of another queue has no packet of the sender
abbrev pub IsOwn : (Event → Option Packet) → Setup → ℕ → ℕ → Event → Type 0
IsOwn f setup q s (offered p outcome) = sends_to setup.senders p.sender q ≡ false → of_sender s (cons_option (f (offered p outcome)) []) ≡ []
IsOwn f setup q s (pulled device moment visits) = ⊤

-- What events say of a sender's packets is what the history of its queue says.
pub its-packets : (f : Event → Option Packet) (g : QueueEvent → Option Packet) → ((p : Packet) (outcome : Offered) → filter_map g (offer_events p outcome) ≡ cons_option (f (offered p outcome)) [])
    → ((o : Option Packet) → g (pull_event o) ≡ None) → ((d m : ℕ) (visits : List Visit) → f (pulled d m visits) ≡ None) → (setup : Setup) (q s : ℕ) (events : List Event) → AllByRecursion (IsOwn f setup q s) events
    → of_sender s (filter_map f events) ≡ of_sender s (filter_map g (history setup q events))
its-packets f g offers pulls none setup q s [] own = refl
its-packets f g offers pulls none setup q s (e ∷ events) own = search (rules, filter_map-append, none-answered, (its-packets f g offers pulls none setup q s events own.1))

-- All that a queue accepted is of its senders.
pub all-sent : (setup : Setup) (q : ℕ) (events : List Event) → AllByRecursion (λ (p : Packet). sends_to setup.senders p.sender q ≡ true) (filter_map accepted_by (history setup q events))
all-sent setup q [] = tt
all-sent setup q (e ∷ events) = search (rules, filter_map-append, none-answered, (all-sent setup q events))

-- what holds of all that a queue evicted holds of what each of its events evicted
abbrev pub EvictsWith : (Packet → Type 0) → Setup → ℕ → Event → Type 0
EvictsWith P setup q (offered p (Evicted front)) = sends_to setup.senders p.sender q ≡ true → P front
EvictsWith P setup q event = ⊤

pub each-evicts : (P : Packet → Type 0) (setup : Setup) (q : ℕ) (events : List Event) → AllByRecursion P (filter_map evicted_by (history setup q events)) → AllByRecursion (EvictsWith P setup q) events
each-evicts P setup q [] h = tt
each-evicts P setup q (e ∷ events) h = search (rules, filter_map-append, none-answered, (each-evicts P setup q events))
