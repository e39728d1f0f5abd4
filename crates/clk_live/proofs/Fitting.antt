-- A queue that is not full accepts what is offered, and a full queue stays full.
use Rattle.std.proofs.Common.{◌≡◌, ℕ, ◌+◌, ◌-◌, ◌≤◌, Bool, true, false, if◌then◌else◌, List, ◌++◌, ◌∷◌, [], append-nil, append_assoc, length, Option, Some, None, MatchOption, slice_get, refl, sym, ap, ◌∙◌, inl, inr, subst, arith}
use Rattle.std.specs.Bool.{⊤}
use Rattle.std.specs.List.{AllByRecursion}
use Rattle.std.specs.Option.{IfSome}
use Rattle.std.proofs.lemmas.List.{length-drop}
use Rattle.std.proofs.lemmas.List.Concat.{flat_map-append}
use Rattle.clk_packet.specs.declared.packet.Kind.{Kind}
use Rattle.clk_packet.specs.declared.packet.Offered.{Offered}
use Rattle.clk_packet.specs.declared.packet.Offered.TheVariants as offer
use Rattle.clk_packet.specs.declared.packet.Packet.{Packet}
use Rattle.clk_ring.specs.QueueHistory.{QueueEvent, accept, refuse, evict, give, empty, accepted, gone, held, offer_events, EachStands, IsQueueHistory}
use Rattle.clk_router.specs.Course.{Course, after, IsQueueState}
use Rattle.clk_router.specs.declared.queue_state.QueueState.{QueueState}
use Rattle.clk_router.specs.Events.{Room, offered, sends_to, at_queue, history, CanHappen}
use Rattle.clk_router.specs.InsideQueues.{QueueGoesOn, QueuesGoOn}
use Rattle.clk_tree.specs.PlanParts.{SendsWithin}
use Rattle.clk_tree.specs.declared.plan.parts.SenderSpec.{SenderSpec}
use Rattle.clk_live.specs.declared.taking.OfferOutcome.{OfferOutcome}
use Rattle.clk_live.specs.declared.taking.OfferOutcome.TheVariants.{Accepted, Refused, Evicted}
use Rattle.clk_live.specs.declared.taking.Taken.{Taken}
use Rattle.clk_live.specs.State.{LiveState, Seen, AllGoOn}
use Rattle.clk_live.specs.Taking.{offer_outcome, IsTaken, IsQueueFull}
use Rattle.clk_live.specs.inside.Each.{GaveAllWanted}
use Rattle.clk_live.specs.inside.Room.{StayFull}
use Rattle.clk_live.proofs.Lists.{there, member}
use Rattle.clk_live.proofs.Outlets.{gave-later, gave-before}
use Rattle.clk_live.proofs.Steps.{spec-at, sends-own, sends-within}

-- how many packets the full queue of a sender holds
pub full-holds : (c : Course) (place : ℕ) (x : SenderSpec) (room : Room) → slice_get c.setup.senders place ≡ Some x → slice_get c.setup.queues x.queue ≡ Some room → IsQueueFull c place
    → length (held (history c.setup x.queue c.events)) ≡ room.capacity
full-holds c place x room at queue full =
    let both : Some x ≡ Some full.spec = sym at ∙ full.sender in
    let spec : x ≡ full.spec = cc both in
    let number : x.queue ≡ full.spec.queue = ap (λ (s : SenderSpec). s.queue) spec in
    let rooms : Some room ≡ Some full.room = sym queue ∙ ap (slice_get c.setup.queues) number ∙ full.queue in
    let its : room ≡ full.room = cc rooms in
    ap (λ q. length (held (history c.setup q c.events))) number ∙ full.full ∙ ap (λ (r : Room). r.capacity) (sym its)

-- whether a queue is full is seen in how many packets it holds
module _ (c : Course) (place : ℕ) (x : SenderSpec) (at : slice_get c.setup.senders place ≡ Some x) (n : ℕ) (state : QueueState) (same : n ≡ x.queue) (is : IsQueueState c n state) where
  abbrev room : Room
  room = record { kind = state.kind; capacity = state.capacity; device = state.device }

  its-room : slice_get c.setup.queues x.queue ≡ Some room
  its-room = ap (slice_get c.setup.queues) (sym same) ∙ is.declared

  pub is-full : state.held ≡ state.capacity → IsQueueFull c place
  is-full all = record { spec = x; room = room; sender = at; queue = its-room; full = ap (λ q. length (held (history c.setup q c.events))) (sym same) ∙ sym is.holds ∙ all }

  pub all-held : IsQueueFull c place → state.held ≡ state.capacity
  all-held full = is.holds ∙ ap (λ q. length (held (history c.setup q c.events))) same ∙ full-holds c place x room at its-room full

by-outcome : (t : Taken) (o : OfferOutcome) → ((offer_outcome t.packet o ≡ offer.Accepted → ⊥) → ⊥) → o ≡ Accepted
by-outcome t Accepted must = refl
by-outcome t Refused must = absurd (must (λ e. cc))
by-outcome t (Evicted front token) must = absurd (must (λ e. cc))

accepts : (place : ℕ) (old new : Seen) (t : Taken) → AllByRecursion (SendsWithin (length old.course.setup.queues)) old.course.setup.senders → QueuesGoOn old.course.setup → CanHappen old.course.setup old.course.events
    → CanHappen new.course.setup new.course.events → (IsQueueFull old.course place → ⊥) → IsTaken place old t new → t.outcome ≡ Accepted
accepts place old new t wired law can can_new not_full took =
    let c = old.course in
    let more : CanHappen c.setup (c.events ++ offered t.packet (offer_outcome t.packet t.outcome) ∷ []) = subst (λ (k : Course). CanHappen k.setup k.events) took.goes_on can_new in
    let x = spec-at c.setup.senders place t.packet.sender took.sender in
    let room = member c.setup.queues x.0.queue (sends-within (length c.setup.queues) c.setup.senders place x.0 wired x.1) in
    let own : sends_to c.setup.senders t.packet.sender x.0.queue ≡ true = subst (λ s. sends_to c.setup.senders s x.0.queue ≡ true) x.2 (sends-own c.setup.senders place x.0 x.1) in
    let goes = there (QueueGoesOn c.setup c.events x.0.queue room.0) (slice_get c.setup.trees room.0.device) (law.each c.events x.0.queue room.0 can room.1) in
    by-outcome t t.outcome
    (λ never. not_full (record { spec = x.0; room = room.0; sender = x.1; queue = room.1; full = goes.2.full t.packet (offer_outcome t.packet t.outcome) own more never }))

pub if-accepts : (place : ℕ) (old new : Seen) (o : Option Taken) → AllByRecursion (SendsWithin (length old.course.setup.queues)) old.course.setup.senders → QueuesGoOn old.course.setup → CanHappen old.course.setup old.course.events
    → CanHappen new.course.setup new.course.events → (IsQueueFull old.course place → ⊥) → IfSome o (λ t. IsTaken place old t new) → IfSome o (λ t. t.outcome ≡ Accepted)
if-accepts place old new None wired law can can_new not_full took = tt
if-accepts place old new (Some t) wired law can can_new not_full took = accepts place old new t wired law can can_new not_full took

-- how many packets were accepted in two parts of a history, and how many are gone
accepted-many : (xs ys : List QueueEvent) → length (accepted (xs ++ ys)) ≡ length (accepted xs) + length (accepted ys)
accepted-many [] ys = omega arith
accepted-many (accept p ∷ xs) ys = let rest = accepted-many xs ys in omega (arith, rest)
accepted-many (refuse p ∷ xs) ys = accepted-many xs ys
accepted-many (evict p ∷ xs) ys = accepted-many xs ys
accepted-many (give p ∷ xs) ys = accepted-many xs ys
accepted-many (empty ∷ xs) ys = accepted-many xs ys

gone-many : (xs ys : List QueueEvent) → length (gone (xs ++ ys)) ≡ length (gone xs) + length (gone ys)
gone-many [] ys = omega arith
gone-many (accept p ∷ xs) ys = gone-many xs ys
gone-many (refuse p ∷ xs) ys = gone-many xs ys
gone-many (evict p ∷ xs) ys = let rest = gone-many xs ys in omega (arith, rest)
gone-many (give p ∷ xs) ys = let rest = gone-many xs ys in omega (arith, rest)
gone-many (empty ∷ xs) ys = gone-many xs ys

-- an offer never makes a queue hold fewer packets
offer-keeps : (past : List QueueEvent) (p : Packet) (outcome : Offered) → length (held past) ≤ length (held (past ++ offer_events p outcome))
offer-keeps past p outcome = by_more outcome (accepted-many past (offer_events p outcome)) (gone-many past (offer_events p outcome)) (held-many past) (held-many (past ++ offer_events p outcome))
  where
    held-many : (events : List QueueEvent) → length (held events) ≡ length (accepted events) - length (gone events)
    held-many events = length-drop (length (gone events)) (accepted events)

    by_more : (o : Offered) → length (accepted (past ++ offer_events p o)) ≡ length (accepted past) + length (accepted (offer_events p o)) → length (gone (past ++ offer_events p o)) ≡ length (gone past) + length (gone (offer_events p o))
        → length (held past) ≡ length (accepted past) - length (gone past) → length (held (past ++ offer_events p o)) ≡ length (accepted (past ++ offer_events p o)) - length (gone (past ++ offer_events p o)) → length (held past) ≤ length (held (past ++ offer_events p o))
    by_more offer.Accepted a g was is = omega (arith, a, g, was, is)
    by_more (offer.Refused q) a g was is = omega (arith, a, g, was, is)
    by_more (offer.Evicted front) a g was is = omega (arith, a, g, was, is)

-- a queue holds no more packets than it may
held-fits : (kind : Kind) (capacity : ℕ) (before after : List QueueEvent) → EachStands kind capacity before after → length (held (before ++ after)) ≤ capacity
held-fits kind capacity before [] h = subst (λ l. length (held l) ≤ capacity) (sym (append-nil before)) h.fits
held-fits kind capacity before (e ∷ after) h = subst (λ l. length (held l) ≤ capacity) (append_assoc before (e ∷ []) after) (held-fits kind capacity (before ++ e ∷ []) after h.3)

pub stay-full : (old new : Course) (p : Packet) (outcome : Offered) → CanHappen new.setup new.events → new ≡ after old (offered p outcome ∷ []) → StayFull old new
stay-full old new p outcome can goes = subst (StayFull old) (sym goes) (λ place is. record { spec = is.spec; room = is.room; sender = is.sender; queue = is.queue; full = still place is })
  where
    now : CanHappen old.setup (old.events ++ offered p outcome ∷ [])
    now = subst (λ (c : Course). CanHappen c.setup c.events) goes can

    keeps : (q : ℕ) → length (held (history old.setup q old.events)) ≤ length (held (history old.setup q (old.events ++ offered p outcome ∷ [])))
    keeps q =
        let past = history old.setup q old.events in
        subst (λ l. length (held past) ≤ length (held l)) (sym (flat_map-append (at_queue old.setup q) old.events (offered p outcome ∷ []) ∙ ap (λ l. past ++ l) (append-nil (at_queue old.setup q (offered p outcome)))))
        (by_test (sends_to old.setup.senders p.sender q))
      where
        by_test : (b : Bool) → length (held (history old.setup q old.events)) ≤ length (held (history old.setup q old.events ++ (if b then offer_events p outcome else [])))
        by_test true = offer-keeps (history old.setup q old.events) p outcome
        by_test false = subst (λ l. length (held (history old.setup q old.events)) ≤ length (held l)) (sym (append-nil (history old.setup q old.events))) (omega arith)

    still : (place : ℕ) (is : IsQueueFull old place) → length (held (history old.setup is.spec.queue (old.events ++ offered p outcome ∷ []))) ≡ is.room.capacity
    still place is =
        let q = is.spec.queue in
        let its : IsQueueHistory is.room.kind is.room.capacity (history old.setup is.spec.queue (old.events ++ offered p outcome ∷ [])) =
        subst (λ o. MatchOption o ⊤ (λ (room : Room). IsQueueHistory room.kind room.capacity (history old.setup is.spec.queue (old.events ++ offered p outcome ∷ [])))) is.queue (now.histories is.spec.queue)
        in
        let fits = held-fits is.room.kind is.room.capacity [] (history old.setup q (old.events ++ offered p outcome ∷ [])) its in
        let least = keeps q in
        omega (arith, fits, least, is.full)

pub if-stay-full : (place : ℕ) (old new : Seen) (o : Option Taken) → CanHappen new.course.setup new.course.events → (o ≡ None → new ≡ old) → IfSome o (λ t. IsTaken place old t new) → StayFull old.course new.course
if-stay-full place old new None can none took = subst (λ (s : Seen). StayFull old.course s.course) (sym (none refl)) (λ k is. is)
if-stay-full place old new (Some t) can none took = stay-full old.course new.course t.packet (offer_outcome t.packet t.outcome) can took.goes_on

-- a sender that gave all that was wanted between two of three states gave it between the first and the last
module _ (start mid new : LiveState) (before : AllGoOn start.outlets mid.outlets) (after : AllGoOn mid.outlets new.outlets) where
  pub wanted-later : (only_fitting : Bool) → StayFull mid.course new.course → (place : ℕ) → GaveAllWanted only_fitting start mid place → GaveAllWanted only_fitting start new place
  wanted-later false full place gave = gave-later start.outlets mid.outlets new.outlets place before after gave
  wanted-later true full place (inl gave) = inl (gave-later start.outlets mid.outlets new.outlets place before after gave)
  wanted-later true full place (inr is) = inr (full place is)

  pub wanted-before : (only_fitting : Bool) (place : ℕ) → GaveAllWanted only_fitting mid new place → GaveAllWanted only_fitting start new place
  wanted-before false place gave = gave-before start.outlets mid.outlets new.outlets place before after gave
  wanted-before true place (inl gave) = inl (gave-before start.outlets mid.outlets new.outlets place before after gave)
  wanted-before true place (inr is) = inr is

-- whatever the place at which the next round starts
pub wanted-turn : (only_fitting : Bool) (old new : LiveState) (turn place : ℕ) → GaveAllWanted only_fitting old new place → GaveAllWanted only_fitting old (record { course = new.course; outlets = new.outlets; turn = turn }) place
wanted-turn false old new turn place gave = gave
wanted-turn true old new turn place gave = gave
