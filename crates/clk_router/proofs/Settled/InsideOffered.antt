-- The packets inside a queue were offered: each number is below how many packets its sender offered.
use Rattle.std.proofs.Common.{◌≡◌, ℕ, zero, suc, ◌+◌, ◌<◌, true, List, [], ◌∷◌, ◌++◌, length, drop, Some, MatchOption, slice_get, sym, ◌∙◌, subst, arith, rules}
use Rattle.std.specs.Bool.{⊤}
use Rattle.std.specs.List.{filter_map, range_with_len, AllByRecursion}
use Rattle.std.proofs.lemmas.Bool.{false≢true}
use Rattle.std.proofs.lemmas.List.Elements.{filter_map-append}
use Rattle.clk_packet.specs.declared.packet.Packet.{Packet}
use Rattle.clk_packet.specs.Lists.{stands_in}
use Rattle.clk_ring.specs.QueueHistory.{gone, held, IsQueueHistory}
use Rattle.clk_router.specs.Events.{Room, Setup, Event, offered, pulled, numbers_of, history, CanHappen}
use Rattle.clk_router.specs.InsideQueues.{given_of, emitted_of, heads_of, inside_of}
use Rattle.clk_sched.proofs.Callers.Lists.{all-split, all-weaker}
use Rattle.clk_router.proofs.Callers.Events.{all-join}
use Rattle.clk_router.proofs.Settled.QueuePackets.{accepted_by, accepted-is, all-given, history-in_order, none-answered}

-- what holds of the packet that an event offered
abbrev pub OfOffer : (Packet → Type 0) → Event → Type 0
OfOffer P (offered p outcome) = P p
OfOffer P (pulled device moment visits) = ⊤

-- the number of a packet is among those that its sender offered
abbrev IsNumbered : List Event → Packet → Type 0
IsNumbered events p = stands_in p.number (numbers_of p.sender events) ≡ true

all-numbered : (events : List Event) → AllByRecursion (OfOffer (IsNumbered events)) events
all-numbered [] = tt
all-numbered (e ∷ events) = search (rules, all-weaker, (all-numbered events))

range-below : (n a k : ℕ) → stands_in n (range_with_len a k) ≡ true → n < a + k
range-below n a zero e = absurd (false≢true e)
range-below n a (suc k) e = search (rules, (range-below n (a + 1) k))

abbrev pub WasOffered : List Event → Packet → Type 0
WasOffered events p = p.number < length (numbers_of p.sender events)

pub all-offered : (setup : Setup) (events : List Event) → CanHappen setup events → AllByRecursion (OfOffer (WasOffered events)) events
all-offered setup events can = all-weaker (OfOffer (IsNumbered events)) (OfOffer (WasOffered events)) events step (all-numbered events)
  where
    step : (x : Event) → OfOffer (IsNumbered events) x → OfOffer (WasOffered events) x
    step (offered p outcome) h = let below = range-below p.number 0 (length (numbers_of p.sender events)) (subst (λ l. stands_in p.number l ≡ true) (can.numbered p.sender) h) in omega (arith, below)
    step (pulled d m visits) h = tt

-- What holds of all packets offered holds of those that a queue accepted, and of those inside it.
pub all-accepted : (P : Packet → Type 0) (setup : Setup) (q : ℕ) (events : List Event) → AllByRecursion (OfOffer P) events → AllByRecursion P (filter_map accepted_by (history setup q events))
all-accepted P setup q [] h = tt
all-accepted P setup q (e ∷ events) h = search (rules, filter_map-append, none-answered, (all-accepted P setup q events h.1))

all-dropped : (P : Packet → Type 0) (n : ℕ) (packets : List Packet) → AllByRecursion P packets → AllByRecursion P (drop n packets)
all-dropped P zero packets h = h
all-dropped P (suc n) [] h = tt
all-dropped P (suc n) (p ∷ packets) h = all-dropped P n packets h.1

pub all-inside : (P : Packet → Type 0) (setup : Setup) (events : List Event) → CanHappen setup events → (d q : ℕ) (room : Room) → slice_get setup.queues q ≡ Some room → AllByRecursion (OfOffer P) events → AllByRecursion P (inside_of setup d q events)
all-inside P setup events can d q room is h =
    all-join P (heads_of setup d q events) (held (history setup q events))
    (all-dropped P (length (emitted_of setup d q events)) (given_of setup q events) (all-given P (history setup q events) (all-split P (gone (history setup q events)) (held (history setup q events)) both).0))
    (all-split P (gone (history setup q events)) (held (history setup q events)) both).1
  where
    past : IsQueueHistory room.kind room.capacity (history setup q events)
    past = subst (λ o. MatchOption o ⊤ (λ (r : Room). IsQueueHistory r.kind r.capacity (history setup q events))) is (can.histories q)

    both : AllByRecursion P (gone (history setup q events) ++ held (history setup q events))
    both =
        subst (AllByRecursion P) (sym (accepted-is (history setup q events)) ∙ (history-in_order room.kind room.capacity (history setup q events) past).order)
        (all-accepted P setup q events h)

-- So the packets inside were offered.
pub inside-offered : (setup : Setup) (events : List Event) → CanHappen setup events → (d q : ℕ) (room : Room) → slice_get setup.queues q ≡ Some room → AllByRecursion (WasOffered events) (inside_of setup d q events)
inside-offered setup events can d q room is = all-inside (WasOffered events) setup events can d q room is (all-offered setup events can)
