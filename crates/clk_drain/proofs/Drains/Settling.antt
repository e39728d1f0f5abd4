-- Settled lines, all of whose packets came out, have a settled outcome.
use Rattle.std.proofs.Common.{◌≡◌, ℕ, ◌==◌, inl, inr, Bool, true, false, not, List, [], ◌∷◌, ◌++◌, map, filter, MatchOption, refl, sym, ap, ◌∙◌, subst, arith, if◌then◌else◌, append-nil, rules}
use Rattle.std.proofs.lemmas.Grind.{common_steps}
use Rattle.std.proofs.lemmas.Bool.Decides.{nat_tests}
use Rattle.std.specs.List.{flat_map, AllByRecursion}
use Rattle.std.proofs.lemmas.Bool.{eqb-true}
use Rattle.clk_packet.specs.declared.packet.Kind.TheVariants.{TailDrop, FrontDrop}
use Rattle.clk_packet.specs.declared.packet.Packet.{Packet}
use Rattle.clk_packet.specs.declared.tally.Tally.{Tally}
use Rattle.clk_packet.specs.Lists.{of_sender, stands_in, are_distinct}
use Rattle.clk_packet.proofs.Callers.Lists.{all-append, distinct-parts, all-both}
use Rattle.clk_ruled.specs.PacketLists.{has_packet, without}
use Rattle.clk_ruled.specs.Queue.{SeatLists, TapLists, ClosedLists, IsDealt, IsSharedOut}
use Rattle.clk_ruled.specs.Settle.{lists_of, of_seat, accepted_of, evicted_of, all_evicted, AreOfTap, tally_of}
use Rattle.clk_sched.specs.Results.{emitted, leaf_packets}
use Rattle.clk_sched.specs.Run.{IsRun}
use Rattle.clk_sched.specs.Session.{Progress}
use Rattle.clk_drain.specs.Line.{LineLists, seats_of, seats_in, senders_at, AreLinesOf, HaveOwnSenders}
use Rattle.clk_drain.specs.Outcome.{Device, senders_to, tally_for, IsQueueSettled, IsSettledOutcome}
use Rattle.clk_tree.specs.PlanParts.{SharedQueue}
use Rattle.clk_drain.specs.Closing.{queue_of_line, tallies_in, AreInOrder, AreOffered, HasSent}
use Rattle.clk_drain.specs.Parts.{HasAllTaken}
use Rattle.clk_drain.specs.inside.Parts.{IsSettledLine}
use Rattle.clk_drain.proofs.Plans.Apart.{apart-parts}
use Rattle.clk_drain.proofs.Leaves.Seated.{joined}
use Rattle.clk_drain.proofs.Drains.Tallies.{IsTallied, tellers, in-order-rise, in-order-found, in-order-all, tellers-in, AreFound, each-found, none-filtered, no-evicted, accepted-same, lost-some}
use Rattle.clk_sched.proofs.Callers.Lists.{all-split, all-weaker}
use Rattle.clk_drain.proofs.Lists.{all-named}

-- a sender that no seat has is another than each seat's
others : (s : ℕ) (seats : List SeatLists) → stands_in s (senders_at seats) ≡ false → AllByRecursion (λ (c : SeatLists). (s == c.sender) ≡ false) seats
others s [] e = tt
others s (c ∷ seats) e = grind (arith, common_steps, nat_tests, (others s seats))

-- each seat's list is what is found under its sender
pub own-list : (list : SeatLists → List Packet) (seats : List SeatLists) → are_distinct (senders_at seats) ≡ true → AllByRecursion (λ (c : SeatLists). of_seat list seats c.sender ≡ list c) seats
own-list list [] apart = tt
own-list list (c ∷ seats) apart = let parts = distinct-parts c.sender (senders_at seats) apart in (
  search rules,
  all-both (λ (e : SeatLists). (c.sender == e.sender) ≡ false) (λ (e : SeatLists). of_seat list seats e.sender ≡ list e) (λ (e : SeatLists). of_seat list (c ∷ seats) e.sender ≡ list e) seats
      (search rules) (others c.sender seats parts.0) (own-list list seats parts.1),
)

-- What each seat offered is what its sender sent.
abbrev sent_of : (seats : List SeatLists) → AllByRecursion IsSharedOut seats → ℕ → List Packet
sent_of [] h s = []
sent_of (c ∷ seats) h s = if c.sender == s then h.0.shared.offered else sent_of seats h.1 s

own-sent : (seats : List SeatLists) (h : AllByRecursion IsSharedOut seats) → are_distinct (senders_at seats) ≡ true → AllByRecursion (λ (c : SeatLists). AreOffered (sent_of seats h c.sender) c) seats
own-sent [] h apart = tt
own-sent (c ∷ seats) h apart = let parts = distinct-parts c.sender (senders_at seats) apart in (
  search rules,
  all-both (λ (e : SeatLists). (c.sender == e.sender) ≡ false) (λ (e : SeatLists). AreOffered (sent_of seats h.1 e.sender) e) (λ (e : SeatLists). AreOffered (sent_of (c ∷ seats) h e.sender) e) seats
      (search rules) (others c.sender seats parts.0) (own-sent seats h.1 parts.1),
)

-- What holds of all lines' seats holds of each line's.
each-line : (P : SeatLists → Type 0) (lines : List LineLists) → AllByRecursion P (seats_in lines) → AllByRecursion (λ (l : LineLists). AllByRecursion P (seats_of l)) lines
each-line P [] h = tt
each-line P (l ∷ lines) h = let both = all-split P (seats_of l) (seats_in lines) h in (both.0, each-line P lines both.1)

all-shared : (lines : List LineLists) → AllByRecursion IsSettledLine lines → AllByRecursion IsSharedOut (seats_in lines)
all-shared [] h = tt
all-shared (l ∷ lines) h = search (rules, all-append, (all-shared lines h.1))

-- where all senders stand apart each line's do
each-apart : (lines : List LineLists) → HaveOwnSenders lines → AllByRecursion (λ (l : LineLists). are_distinct (senders_at (seats_of l)) ≡ true) lines
each-apart [] h = tt
each-apart (l ∷ lines) h = grind (arith, common_steps, nat_tests, apart-parts, (each-apart lines))

-- the senders to a device's queues are those of the lines
pub senders-same : (lines : List LineLists) → flat_map (λ (q : SharedQueue). q.senders) (map queue_of_line lines) ≡ senders_at (seats_in lines)
senders-same [] = refl
senders-same (l ∷ lines) = search (rules, joined, (senders-same lines))

-- A test deals packets to those that pass and those that don't.
dealt : (test : Packet → Bool) (packets : List Packet) → IsDealt packets (filter test packets) (filter (λ p. not (test p)) packets)
dealt test [] = (refl, refl)
dealt test (p ∷ packets) = by_test (test p) (dealt test packets)
  where
    some : List Packet
    some = filter test packets

    rest : List Packet
    rest = filter (λ p. not (test p)) packets

    by_test : (b : Bool) → IsDealt packets some rest → IsDealt (p ∷ packets) (if b then p ∷ some else some) (if not b then p ∷ rest else rest)
    by_test true h = inl (some, refl, h)
    by_test false h = inr (rest, refl, h)

setups : (tap : TapLists) (closed : List ClosedLists) → AreOfTap tap closed → AllByRecursion (λ (c : SeatLists). c.setup ≡ tap.setup) (lists_of closed)
setups tap [] h = tt
setups tap (c ∷ closed) h = (h.0.setup, setups tap closed h.1)

-- What a line tells, once all of its packets came out of a device.
record IsReady (sent : ℕ → List Packet) (d : Device) (tallies : List Tally) (l : LineLists) : Type 0 where
  settled : IsSettledLine l
  taken : HasAllTaken l
  apart : are_distinct (senders_at (seats_of l)) ≡ true
  shared : AllByRecursion (λ (c : SeatLists). AreOffered (sent c.sender) c) (seats_of l)
  found : AreFound tallies (all_evicted (seats_of l)) (seats_of l)
  emitted : filter (λ (p : Packet). stands_in p.sender (senders_at (seats_of l))) d.emitted ≡ l.tap.taken
  given : l.tap.taken ≡ leaf_packets d.tree l.leaf d.log

-- What a seat tells besides.
record IsOwn (l : LineLists) (c : SeatLists) : Type 0 where
  accepted : accepted_of (seats_of l) c.sender ≡ c.accepted
  named : stands_in c.sender (senders_at (seats_of l)) ≡ true
  front_drop : l.tap.setup.kind ≡ FrontDrop → c.refused ≡ []

-- What is of a sender among the packets of some senders is all that is of this one.
of-one : (s : ℕ) (senders : List ℕ) (packets : List Packet) → stands_in s senders ≡ true → of_sender s (filter (λ (p : Packet). stands_in p.sender senders) packets) ≡ of_sender s packets
of-one s senders [] has = refl
of-one s senders (p ∷ packets) has = search (rules, eqb-true, (of-one s senders packets has))

-- a Queue puts nothing out
none-put_out : (l : LineLists) → IsSettledLine l → are_distinct (senders_at (seats_of l)) ≡ true → l.tap.setup.kind ≡ TailDrop → all_evicted (seats_of l) ≡ []
none-put_out l h apart k =
    no-evicted (seats_of l)
    (all-weaker (λ (c : SeatLists). evicted_of (seats_of l) c.sender ≡ c.evicted) (λ (c : SeatLists). c.evicted ≡ []) (seats_of l) (λ c e. sym e ∙ h.is.account.tail_drop k c.sender) (own-list (λ c. c.evicted) (seats_of l) apart))

-- A seat's packets became what its tally tells.
tallied : (sent : ℕ → List Packet) (d : Device) (tallies : List Tally) (l : LineLists) → IsReady sent d tallies l → (c : SeatLists) → AreOffered (sent c.sender) c → IsOwn l c
    → IsTallied sent d (queue_of_line l) (tally_of (all_evicted (seats_of l)) c)
tallied sent d tallies l ready c shared own =
    let out : List Packet = all_evicted (seats_of l) in
    let came : of_sender c.sender d.emitted ≡ of_sender c.sender l.tap.taken = sym (of-one c.sender (senders_at (seats_of l)) d.emitted own.named) ∙ ap (of_sender c.sender) ready.emitted in
    let left : without c.accepted out ≡ of_sender c.sender d.emitted = search rules in record {
      offered_are = shared.2;
      accepted_are = subst (IsDealt c.accepted (filter (has_packet out) c.accepted)) left (dealt (has_packet out) c.accepted);
      tail_drop = λ k. none-filtered out c.accepted (none-put_out l ready.settled ready.apart k);
      front_drop = own.front_drop;
    }

each-tallied : (sent : ℕ → List Packet) (d : Device) (tallies : List Tally) (l : LineLists) → IsReady sent d tallies l → (seats : List SeatLists) → AreFound tallies (all_evicted (seats_of l)) seats
    → AllByRecursion (λ (c : SeatLists). AreOffered (sent c.sender) c) seats → AllByRecursion (IsOwn l) seats
    → AllByRecursion (λ s. MatchOption (tally_for tallies s) ⊥ (IsTallied sent d (queue_of_line l))) (senders_at seats)
each-tallied sent d tallies l ready [] found shared own = tt
each-tallied sent d tallies l ready (c ∷ seats) found shared own = search (rules, (tallied sent d tallies l ready c shared.0 own.0), (each-tallied sent d tallies l ready seats found.1 shared.1 own.1))

all-own : (l : LineLists) → IsSettledLine l → are_distinct (senders_at (seats_of l)) ≡ true → AllByRecursion (IsOwn l) (seats_of l)
all-own l h apart =
    all-both (λ (c : SeatLists). accepted_of (seats_of l) c.sender ≡ c.accepted) (λ (c : SeatLists). (stands_in c.sender (senders_at (seats_of l)) ≡ true) × (l.tap.setup.kind ≡ FrontDrop → c.refused ≡ []))
    (IsOwn l) (seats_of l) (λ c e k. record { accepted = e; named = k.0; front_drop = k.1 }) (own-list (λ c. c.accepted) (seats_of l) apart)
    (all-both (λ (c : SeatLists). stands_in c.sender (senders_at (seats_of l)) ≡ true) (λ (c : SeatLists). l.tap.setup.kind ≡ FrontDrop → c.refused ≡ []) _ (seats_of l) (λ c e k. (e, k)) (all-named (λ (c : SeatLists). c.sender) (seats_of l))
    (search (rules, all-both, setups)))

-- A ready line's queue is settled.
queue-settled : (sent : ℕ → List Packet) (d : Device) (tallies : List Tally) (l : LineLists) → IsReady sent d tallies l → IsQueueSettled sent tallies d (queue_of_line l)
queue-settled sent d tallies l ready = record {
  each = each-tallied sent d tallies l ready (seats_of l) ready.found ready.shared (all-own l ready.settled ready.apart);
  given = sym ready.given ∙ sym ready.emitted;
  reached = search (rules, lost-some, accepted-same);
}

abbrev queues_of : List LineLists → List SharedQueue
queues_of lines = map queue_of_line lines

queues-settled : (sent : ℕ → List Packet) (d : Device) (tallies : List Tally) (lines : List LineLists) → AllByRecursion (IsReady sent d tallies) lines → AllByRecursion (IsQueueSettled sent tallies d) (queues_of lines)
queues-settled sent d tallies [] h = tt
queues-settled sent d tallies (l ∷ lines) h = (queue-settled sent d tallies l h.0, queues-settled sent d tallies lines h.1)

all-ready : (sent : ℕ → List Packet) (d : Device) (tallies : List Tally) (lines : List LineLists) → AllByRecursion IsSettledLine lines → AllByRecursion HasAllTaken lines
    → AllByRecursion (λ (l : LineLists). are_distinct (senders_at (seats_of l)) ≡ true) lines
    → AllByRecursion (λ (l : LineLists). AllByRecursion (λ (c : SeatLists). AreOffered (sent c.sender) c) (seats_of l)) lines
    → AllByRecursion (λ (l : LineLists). AreFound tallies (all_evicted (seats_of l)) (seats_of l)) lines
    → AllByRecursion (λ (l : LineLists). filter (λ (p : Packet). stands_in p.sender (senders_at (seats_of l))) d.emitted ≡ l.tap.taken) lines
    → AllByRecursion (λ (l : LineLists). l.tap.taken ≡ leaf_packets d.tree l.leaf d.log) lines → AllByRecursion (IsReady sent d tallies) lines
all-ready sent d tallies [] settled taken apart shared found came given = tt
all-ready sent d tallies (l ∷ lines) settled taken apart shared found came given = search (rules, (all-ready sent d tallies lines settled.1 taken.1 apart.1 shared.1 found.1 came.1 given.1))

-- The seats of settled lines offered some packets.
pub some-sent : (lines : List LineLists) → HaveOwnSenders lines → AllByRecursion IsSettledLine lines → (sent : ℕ → List Packet) × AllByRecursion (HasSent sent) (seats_in lines)
some-sent lines own settled = let shared = all-shared lines settled in (sent_of (seats_in lines) shared, own-sent (seats_in lines) shared own)

-- What the seats offered is settled, where every packet that came out is a line's and each line's came out.
pub settled-outcome : (sent : ℕ → List Packet) (session : Progress) (lines : List LineLists) (tallies : List Tally) (emits : List Packet)
    → IsRun session.tree session.log → emits ≡ emitted session.log
    → AreLinesOf session lines → HaveOwnSenders lines → AllByRecursion (HasSent sent) (seats_in lines) → AllByRecursion IsSettledLine lines → AllByRecursion HasAllTaken lines
    → AllByRecursion (λ (l : LineLists). filter (λ (p : Packet). stands_in p.sender (senders_at (seats_of l))) emits ≡ l.tap.taken) lines
    → AllByRecursion (λ (p : Packet). stands_in p.sender (senders_at (seats_in lines)) ≡ true) emits
    → AreInOrder (tallies_in lines) tallies
    → IsSettledOutcome sent (record { tree = session.tree; queues = map queue_of_line lines; log = session.log; emitted = emits } ∷ []) tallies
settled-outcome sent session lines tallies emits run out own_lines own offered settled taken came known order =
    let d : Device = record { tree = session.tree; queues = map queue_of_line lines; log = session.log; emitted = emits } in
    let apart : are_distinct (tellers (tallies_in lines)) ≡ true = subst (λ ns. are_distinct ns ≡ true) (sym (tellers-in lines)) own in
    let found = each-found tallies lines (in-order-found (tallies_in lines) tallies apart order) in
    let senders : tellers (tallies_in lines) ≡ senders_to d ++ [] = tellers-in lines ∙ sym (senders-same lines) ∙ sym (append-nil (senders_to d)) in record {
      rise = in-order-rise (tallies_in lines) tallies apart order;
      known = in-order-all (λ (t : Tally). stands_in t.sender (senders_to d ++ []) ≡ true) (tallies_in lines) tallies order
          (subst (λ names. AllByRecursion (λ (t : Tally). stands_in t.sender names ≡ true) (tallies_in lines)) senders (all-named (λ (t : Tally). t.sender) (tallies_in lines)));
      settled = search (rules, queues-settled, all-ready, each-apart, each-line, senders-same);
    }
