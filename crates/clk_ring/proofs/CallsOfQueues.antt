-- Calls on a queue are a history of it, and a history leaves nothing to choose.
use Rattle.std.proofs.Common.{◌≡◌, ℕ, ◌+◌, ◌<◌, ◌≤◌, List, [], ◌∷◌, ◌++◌, length, drop, Option, Some, None, slice_get, refl, sym, ap, ◌∙◌, subst, arith}
use Rattle.std.proofs.lemmas.List.{append_assoc, append-nil, length-append, append_cancel_left}
use Rattle.clk_packet.specs.declared.packet.Packet.{Packet}
use Rattle.clk_packet.specs.declared.packet.Kind.{Kind}
use Rattle.clk_packet.specs.declared.packet.Kind.TheVariants.{TailDrop, FrontDrop}
use Rattle.clk_packet.specs.declared.packet.Offered.{Offered}
use Rattle.clk_packet.specs.declared.packet.Offered.TheVariants.{Accepted, Refused, Evicted}
use Rattle.clk_ring.specs.Queue.{Queue, holding, IsOffered, IsPulled}
use Rattle.clk_ring.specs.QueueHistory.{QueueEvent, accept, refuse, evict, give, empty, accepted, gone, held, offer_events, pull_event, NamesOffer, IsInOrder, MayStand, IsFollowedUp, EachStands}
use Rattle.clk_ring.specs.Laws.{LeadsTo, CallsAreHistory, HistoriesAreCalls, HistoriesLeaveNoChoice}
use Rattle.clk_ring.proofs.Histories.{Holds, accepted-append, gone-append, holds-more, held-is, in-order, stands-join, stands-after, in-order-begin, in-order-end}

-- what the queue at the end of a history holds, and that this fits
holds-now : (events : List QueueEvent) (q : Queue) → LeadsTo events q → Holds events q.packets × (length q.packets ≤ q.capacity)
holds-now events q leads =
    let order = in-order-end q.kind q.capacity [] events leads.whole in
    (order.order ∙ ap (λ l. gone events ++ l) leads.holds, subst (λ (l : List Packet). length l ≤ q.capacity) leads.holds order.fits)

-- further events that stand there lead on
leads-on : (events next : List QueueEvent) (q : Queue) (after : List Packet) → LeadsTo events q → EachStands q.kind q.capacity events next
    → q.packets ++ accepted next ≡ gone next ++ after → LeadsTo (events ++ next) (holding q after)
leads-on events next q after leads stand moves =
    record {
      whole = stands-join q.kind q.capacity [] events next leads.whole stand;
      holds = held-is (events ++ next) after (holds-more events next q.packets after (holds-now events q leads).0 moves);
    }

-- one event, which needs no other behind it
one-on : (events : List QueueEvent) (event : QueueEvent) (q new : Queue) (after : List Packet) → LeadsTo events q → MayStand q.kind q.capacity q.packets event → IsFollowedUp event []
    → q.packets ++ accepted (event ∷ []) ≡ gone (event ∷ []) ++ after → length after ≤ q.capacity → new ≡ holding q after → LeadsTo (events ++ event ∷ []) new
one-on events event q new after leads may followed moves fits is =
    let now = holds-now events q leads in
    subst (LeadsTo (events ++ event ∷ [])) (sym is)
    (leads-on events (event ∷ []) q after leads (
      in-order-end q.kind q.capacity [] events leads.whole,
      subst (λ l. MayStand q.kind q.capacity l event) (sym leads.holds) may,
      followed,
      in-order q.capacity (events ++ event ∷ []) after (holds-more events (event ∷ []) q.packets after now.0 moves) fits,
    ) moves)

-- the front goes out, and another packet comes in
evict-on : (events : List QueueEvent) (q new : Queue) (front p : Packet) (rest : List Packet) → LeadsTo events q → q.kind ≡ FrontDrop → length q.packets ≡ q.capacity
    → q.packets ≡ front ∷ rest → new ≡ holding q (rest ++ p ∷ []) → LeadsTo (events ++ evict front ∷ accept p ∷ []) new
evict-on events q new front p rest leads kind full front_is is =
    subst (LeadsTo (events ++ evict front ∷ accept p ∷ [])) (sym is)
    (leads-on events (evict front ∷ accept p ∷ []) q (rest ++ p ∷ []) leads (
      in-order-end q.kind q.capacity [] events leads.whole,
      (kind, ap length leads.holds ∙ full),
      tt,
      (
        in-order q.capacity (events ++ evict front ∷ []) rest out (omega (arith, count, full)),
        tt,
        tt,
        in-order q.capacity ((events ++ evict front ∷ []) ++ accept p ∷ []) (rest ++ p ∷ []) (holds-more (events ++ evict front ∷ []) (accept p ∷ []) rest (rest ++ p ∷ []) out refl)
            (omega (arith, length-append rest (p ∷ []), count, full)),
      ),
    ) (ap (λ l. l ++ p ∷ []) front_is))
  where
    out : Holds (events ++ evict front ∷ []) rest
    out = holds-more events (evict front ∷ []) q.packets rest (holds-now events q leads).0 (append-nil q.packets ∙ front_is)

    count : length q.packets ≡ length rest + 1
    count = ap length front_is ∙ omega arith

offered-on : (events : List QueueEvent) (old new : Queue) (p : Packet) (outcome : Offered) → LeadsTo events old → IsOffered old p outcome new → LeadsTo (events ++ offer_events p outcome) new
offered-on events old new p Accepted leads h = one-on events (accept p) old new (old.packets ++ p ∷ []) leads tt tt refl (let room = h.0 in omega (arith, length-append old.packets (p ∷ []), room)) h.1
offered-on events old new p (Refused q) leads h = one-on events (refuse p) old new old.packets leads (h.0, h.1) tt (append-nil old.packets) (holds-now events old leads).1 h.3
offered-on events old new p (Evicted front) leads h = evict-on events old new front p h.2.0 leads h.0 h.1 h.2.1 h.2.2

pulled-on : (events : List QueueEvent) (old new : Queue) (got : Option Packet) → LeadsTo events old → IsPulled old got new → LeadsTo (events ++ pull_event got ∷ []) new
pulled-on events old new None leads h = one-on events empty old new old.packets leads h.0 tt (append-nil old.packets) (holds-now events old leads).1 h.1
pulled-on events old new (Some p) leads h =
    let fits = (holds-now events old leads).1 in
    let is = ap length h.1 in
    one-on events (give p) old new h.0 leads tt tt (append-nil old.packets ∙ h.1) (omega (arith, fits, is)) h.2

pub calls-are_history : CallsAreHistory
calls-are_history =
    record {
      made = λ kind capacity. record { whole = record { order = refl; fits = omega arith }; holds = refl };
      offered = offered-on;
      pulled = pulled-on;
    }

-- a pull gives the front
pub pulls-front : (q new : Queue) (got : Option Packet) → got ≡ slice_get q.packets 0 → new ≡ holding q (drop 1 q.packets) → IsPulled q got new
pulls-front q new got first is = subst (λ o. IsPulled q o new) (sym first) (by_packets q.packets refl)
  where
    by_packets : (packets : List Packet) → q.packets ≡ packets → IsPulled q (slice_get packets 0) new
    by_packets [] e = (e, is ∙ ap (holding q) (ap (drop 1) e ∙ sym e))
    by_packets (p ∷ rest) e = (rest, e, is ∙ ap (λ l. holding q (drop 1 l)) e)

-- where one event more is in order and puts a packet out, that packet was at the front
front-was : (capacity : ℕ) (events : List QueueEvent) (event : QueueEvent) (p : Packet) → accepted (event ∷ []) ≡ [] → gone (event ∷ []) ≡ p ∷ [] → IsInOrder capacity events
    → IsInOrder capacity (events ++ event ∷ []) → slice_get (held events) 0 ≡ Some p
front-was capacity events event p none one before after =
    ap (λ l. slice_get l 0)
    (append_cancel_left (gone events) (held events) (p ∷ held (events ++ event ∷ []))
    (sym before.order ∙ sym (append-nil (accepted events)) ∙ ap (λ l. accepted events ++ l) (sym none) ∙ sym (accepted-append events (event ∷ []))
    ∙ after.order ∙ ap (λ l. l ++ held (events ++ event ∷ [])) (gone-append events (event ∷ []) ∙ ap (λ l. gone events ++ l) one) ∙ append_assoc (gone events) (p ∷ []) (held (events ++ event ∷ []))))

-- what an outcome says of the queue
abbrev TellsOffer : Kind → ℕ → List Packet → Packet → Offered → Type 0
TellsOffer kind capacity holding p Accepted = length holding < capacity
TellsOffer kind capacity holding p (Refused q) = (kind ≡ TailDrop) × (length holding ≡ capacity) × (q ≡ p)
TellsOffer kind capacity holding p (Evicted front) = (kind ≡ FrontDrop) × (length holding ≡ capacity) × (slice_get holding 0 ≡ Some front)

tells-offer : (kind : Kind) (capacity : ℕ) (events : List QueueEvent) (p : Packet) (outcome : Offered) (more : List QueueEvent) → NamesOffer p outcome
    → EachStands kind capacity events (offer_events p outcome ++ more) → TellsOffer kind capacity (held events) p outcome
tells-offer kind capacity events p Accepted after names h =
    let more = held-is (events ++ accept p ∷ []) (held events ++ p ∷ []) (holds-more events (accept p ∷ []) (held events) (held events ++ p ∷ []) h.0.order refl) in
    let fits = (in-order-begin kind capacity (events ++ accept p ∷ []) after h.3).fits in
    omega (arith, ap length more, fits, length-append (held events) (p ∷ []))
tells-offer kind capacity events p (Refused q) after names h = (h.1.0, h.1.1, names)
tells-offer kind capacity events p (Evicted front) after names h = (h.1.0, h.1.1, front-was capacity events (evict front) front refl refl h.0 h.3.0)

same-outcome : (kind : Kind) (capacity : ℕ) (holding : List Packet) (p : Packet) (one other : Offered) → TellsOffer kind capacity holding p one → TellsOffer kind capacity holding p other → one ≡ other
same-outcome kind capacity holding p Accepted Accepted a b = refl
same-outcome kind capacity holding p Accepted (Refused q) a b = let full = b.1 in absurd (omega (arith, full))
same-outcome kind capacity holding p Accepted (Evicted g) a b = let full = b.1 in absurd (omega (arith, full))
same-outcome kind capacity holding p (Refused q) Accepted a b = let full = a.1 in absurd (omega (arith, full))
same-outcome kind capacity holding p (Refused q) (Refused r) a b = ap Refused (a.2 ∙ sym b.2)
same-outcome kind capacity holding p (Refused q) (Evicted g) a b = let kinds : TailDrop ≡ FrontDrop = sym a.0 ∙ b.0 in cc
same-outcome kind capacity holding p (Evicted f) Accepted a b = let full = a.1 in absurd (omega (arith, full))
same-outcome kind capacity holding p (Evicted f) (Refused r) a b = let kinds : TailDrop ≡ FrontDrop = sym b.0 ∙ a.0 in cc
same-outcome kind capacity holding p (Evicted f) (Evicted g) a b = let fronts : Some f ≡ Some g = sym a.2 ∙ b.2 in cc

-- what an answer to a pull says of the queue
tells-pull : (kind : Kind) (capacity : ℕ) (events : List QueueEvent) (got : Option Packet) (more : List QueueEvent) → EachStands kind capacity events (pull_event got ∷ more)
    → slice_get (held events) 0 ≡ got
tells-pull kind capacity events None more h = ap (λ l. slice_get l 0) h.1
tells-pull kind capacity events (Some p) more h = front-was capacity events (give p) p refl refl h.0 (in-order-begin kind capacity (events ++ give p ∷ []) more h.3)

pub leaves-no_choice : HistoriesLeaveNoChoice
leaves-no_choice =
    record {
      outcomes = λ kind capacity events p one other more rest names named a b.
          same-outcome kind capacity (held events) p one other (tells-offer kind capacity events p one more names (stands-after kind capacity [] events (offer_events p one ++ more) a))
          (tells-offer kind capacity events p other rest named (stands-after kind capacity [] events (offer_events p other ++ rest) b));
      answers = λ kind capacity events one other more rest a b.
          sym (tells-pull kind capacity events one more (stands-after kind capacity [] events (pull_event one ∷ more) a))
          ∙ tells-pull kind capacity events other rest (stands-after kind capacity [] events (pull_event other ∷ rest) b);
    }

-- events lead to one queue of a kind and a capacity
leads-same : (events : List QueueEvent) (a b : Queue) → b.kind ≡ a.kind → b.capacity ≡ a.capacity → LeadsTo events a → LeadsTo events b → a ≡ b
leads-same events a b kind capacity h k = λ i. record { kind = sym kind i; capacity = sym capacity i; packets = (sym h.holds ∙ k.holds) i }

-- what stands at the front
front-first : (packets : List Packet) (p : Packet) → slice_get packets 0 ≡ Some p → (rest : List Packet) × (packets ≡ p ∷ rest)
front-first [] p e = absurd (cc)
front-first (q ∷ rest) p e = (rest, let same : q ≡ p = cc in ap (λ r. r ∷ rest) same)

-- the queue after an offer with this outcome, and after a pull with this result
offer-made : (q : Queue) (p : Packet) (outcome : Offered) → TellsOffer q.kind q.capacity q.packets p outcome → (new : Queue) × IsOffered q p outcome new × (q.kind ≡ new.kind) × (q.capacity ≡ new.capacity)
offer-made q p Accepted tells = (holding q (q.packets ++ p ∷ []), (tells, refl), refl, refl)
offer-made q p (Refused r) tells = (q, (tells.0, tells.1, tells.2, refl), refl, refl)
offer-made q p (Evicted front) tells =
    let first = front-first q.packets front tells.2 in
    (holding q (first.0 ++ p ∷ []), (tells.0, tells.1, (first.0, first.1, refl)), refl, refl)

pull-made : (q : Queue) (got : Option Packet) → slice_get q.packets 0 ≡ got → (new : Queue) × IsPulled q got new × (q.kind ≡ new.kind) × (q.capacity ≡ new.capacity)
pull-made q got is = (holding q (drop 1 q.packets), pulls-front q (holding q (drop 1 q.packets)) got (sym is) refl, refl, refl)

-- what stands in the history of a queue, after the history of the one before
stands-on : (events next : List QueueEvent) (old new : Queue) → new.kind ≡ old.kind → new.capacity ≡ old.capacity → LeadsTo (events ++ next) new → EachStands old.kind old.capacity events next
stands-on events next old new kind capacity leads = stands-after old.kind old.capacity [] events next (rw (sym kind, sym capacity) leads.whole)

pub histories-are_calls : HistoriesAreCalls
histories-are_calls =
    record {
      offered = λ events old new p outcome names kind capacity was is.
          let stand = subst (EachStands old.kind old.capacity events) (sym (append-nil (offer_events p outcome))) (stands-on events (offer_events p outcome) old new kind capacity is) in
          let made = offer-made old p outcome (subst (λ l. TellsOffer old.kind old.capacity l p outcome) was.holds (tells-offer old.kind old.capacity events p outcome [] names stand)) in
          subst (IsOffered old p outcome) (leads-same _ made.0 new (kind ∙ made.2) (capacity ∙ made.3) (offered-on events old made.0 p outcome was made.1) is) made.1;
      pulled = λ events old new got kind capacity was is.
          let stand = stands-on events (pull_event got ∷ []) old new kind capacity is in
          let made = pull-made old got (ap (λ l. slice_get l 0) (sym was.holds) ∙ tells-pull old.kind old.capacity events got [] stand) in
          subst (IsPulled old got) (leads-same _ made.0 new (kind ∙ made.2) (capacity ∙ made.3) (pulled-on events old made.0 got was made.1) is) made.1;
    }
