-- How many packets senders offered: so few that each can offer the next one that comes.
use Rattle.std.proofs.Common.{◌≡◌, ℕ, suc, ◌+◌, ◌*◌, ◌<◌, ◌≤◌, ◌==◌, ◌||◌, Bool, true, false, if◌then◌else◌, List, [], ◌∷◌, ◌++◌, length, Some, None, slice_get, get_or, refl, sym, ap, ◌∙◌, subst, arith}
use Rattle.std.specs.List.{filter_map, cons_option, list_any, range_with_len, AllByRecursion}
use Rattle.std.proofs.lemmas.Bool.{false≢true}
use Rattle.std.proofs.lemmas.Bool.Decides.{nat_tests}
use Rattle.std.proofs.lemmas.List.{length-append, length-map, append-nil}
use Rattle.std.proofs.lemmas.List.Elements.{filter-append, filter_map-append}
use Rattle.std.proofs.lemmas.List.FromFn.{get_or-range_with_len}
use Rattle.std.proofs.lemmas.Option.{slice_get_within}
use Rattle.clk_packet.specs.declared.packet.Packet.{Packet}
use Rattle.clk_packet.specs.declared.packet.Offered.{Offered}
use Rattle.clk_packet.specs.declared.packet.Offered.TheVariants.{Accepted, Refused, Evicted}
use Rattle.clk_packet.specs.Lists.{of_sender}
use Rattle.clk_sched.specs.declared.visit.Visit.{Visit}
use Rattle.clk_inlet.specs.declared.limits.TheConstants.{MAX_PACKETS}
use Rattle.clk_inlet.specs.declared.item.Item.{Item}
use Rattle.circular_buffer.specs.Buffer.{Buffer}
use Rattle.clk_tree.specs.PlanParts.{number_of}
use Rattle.clk_router.specs.Course.{Course, sender_at, CanOffer}
use Rattle.clk_router.specs.Events.{Setup, Event, offered, pulled, sender_numbers, number_from, numbers_of, happens_at, events_at, accepted_in, IsOfSender, CanHappen}
use Rattle.clk_router.specs.Settled.{offered_in, offered_of}
use Rattle.clk_live.specs.Outcome.{item_length, packet_length}
use Rattle.clk_live.specs.inside.Kept.{IsKept}
use Rattle.clk_live.proofs.Lists.{member}

-- a sender offered as many packets as it numbered
pub as-many : (s : ℕ) (events : List Event) → length (numbers_of s events) ≡ length (offered_of events s)
as-many s [] = refl
as-many s (offered p outcome ∷ events) = by_test (p.sender == s) (as-many s events)
  where
    by_test : (b : Bool) → length (numbers_of s events) ≡ length (offered_of events s) → length (cons_option (if b then Some p.number else None) (numbers_of s events)) ≡ length (if b then p ∷ offered_of events s else offered_of events s)
    by_test true e = ap suc e
    by_test false e = e
as-many s (pulled device moment visits ∷ events) = as-many s events

-- what a sender offered after one more event
pub offers-one : (events : List Event) (p : Packet) (outcome : Offered) (s : ℕ) → (p.sender == s) ≡ true → offered_of (events ++ offered p outcome ∷ []) s ≡ offered_of events s ++ p ∷ []
offers-one events p outcome s own =
    ap (of_sender s) (filter_map-append offered_in events (offered p outcome ∷ [])) ∙ filter-append (λ (q : Packet). q.sender == s) (filter_map offered_in events) (p ∷ [])
    ∙ ap (λ b. offered_of events s ++ (if b then p ∷ [] else [])) own

pub offers-other : (events : List Event) (p : Packet) (outcome : Offered) (s : ℕ) → (p.sender == s) ≡ false → offered_of (events ++ offered p outcome ∷ []) s ≡ offered_of events s
offers-other events p outcome s other =
    ap (of_sender s) (filter_map-append offered_in events (offered p outcome ∷ [])) ∙ filter-append (λ (q : Packet). q.sender == s) (filter_map offered_in events) (p ∷ [])
    ∙ ap (λ b. offered_of events s ++ (if b then p ∷ [] else [])) other ∙ append-nil (offered_of events s)

pub offers-pull : (events : List Event) (d m : ℕ) (visits : List Visit) (s : ℕ) → offered_of (events ++ pulled d m visits ∷ []) s ≡ offered_of events s
offers-pull events d m visits s = ap (of_sender s) (filter_map-append offered_in events (pulled d m visits ∷ []) ∙ append-nil (filter_map offered_in events))

-- the last of numbers that were counted from 0 is how many stand before it
last-is : (xs : List ℕ) (y d : ℕ) → get_or (xs ++ y ∷ []) (length xs) d ≡ y
last-is [] y d = refl
last-is (x ∷ xs) y d = last-is xs y d

-- a packet's number is how many its sender offered before it
pub number-is : (setup : Setup) (events : List Event) (p : Packet) (outcome : Offered) → CanHappen setup (events ++ offered p outcome ∷ []) → p.number ≡ length (offered_of events p.sender)
number-is setup events p outcome can =
    let s = p.sender in
    let xs = numbers_of s events in
    let own : (s == s) ≡ true = grind (arith, nat_tests) in
    let more : numbers_of s (events ++ offered p outcome ∷ []) ≡ xs ++ p.number ∷ [] = filter_map-append (number_from s) events (offered p outcome ∷ []) ∙ ap (λ b. xs ++ cons_option (if b then Some p.number else None) []) own in
    let all : xs ++ p.number ∷ [] ≡ range_with_len 0 (length (xs ++ p.number ∷ [])) = subst (λ l. l ≡ range_with_len 0 (length l)) more (can.numbered s) in
    let n : length (xs ++ p.number ∷ []) ≡ length xs + 1 = length-append xs (p.number ∷ []) in
    let at : get_or (range_with_len 0 (length (xs ++ p.number ∷ []))) (length xs) 0 ≡ 0 + length xs = get_or-range_with_len 0 (length (xs ++ p.number ∷ [])) (length xs) 0 (omega (arith, n)) in
    sym (last-is xs p.number 0) ∙ ap (λ l. get_or l (length xs) 0) all ∙ at ∙ (omega arith) ∙ as-many s events

-- how many packets senders of these numbers offered in all
abbrev counts : List Event → List ℕ → ℕ
counts events [] = 0
counts events (n ∷ ns) = length (numbers_of n events) + counts events ns

no-less : (e : Event) (events : List Event) (ns : List ℕ) → counts events ns ≤ counts (e ∷ events) ns
no-less e events [] = omega arith
no-less e events (n ∷ ns) = by_event e (no-less e events ns)
  where
    by_test : (b : Bool) (k : ℕ) → length (numbers_of n events) ≤ length (cons_option (if b then Some k else None) (numbers_of n events))
    by_test true k = omega arith
    by_test false k = omega arith

    by_event : (e : Event) → counts events ns ≤ counts (e ∷ events) ns → length (numbers_of n events) + counts events ns ≤ length (numbers_of n (e ∷ events)) + counts (e ∷ events) ns
    by_event (offered p outcome) rest = let first = by_test (p.sender == n) p.number in omega (arith, rest, first)
    by_event (pulled d m visits) rest = omega (arith, rest)

one-more : (p : Packet) (outcome : Offered) (events : List Event) (ns : List ℕ) → list_any (λ n. n == p.sender) ns ≡ true → 1 + counts events ns ≤ counts (offered p outcome ∷ events) ns
one-more p outcome events [] e = absurd (false≢true e)
one-more p outcome events (n ∷ ns) e = by_test (n == p.sender) refl e (one-more p outcome events ns)
  where
    less : (b : Bool) → length (numbers_of n events) ≤ length (cons_option (if b then Some p.number else None) (numbers_of n events))
    less true = omega arith
    less false = omega arith

    by_test : (b : Bool) → (n == p.sender) ≡ b → (b || list_any (λ k. k == p.sender) ns) ≡ true → (list_any (λ k. k == p.sender) ns ≡ true → 1 + counts events ns ≤ counts (offered p outcome ∷ events) ns)
        → 1 + (length (numbers_of n events) + counts events ns) ≤ length (cons_option (if p.sender == n then Some p.number else None) (numbers_of n events)) + counts (offered p outcome ∷ events) ns
    by_test true f e rest =
        let own : (p.sender == n) ≡ true = grind (arith, nat_tests, f) in
        let more = no-less (offered p outcome) events ns in
        rw own (omega (arith, more))
    by_test false f e rest = let first = less (p.sender == n) in let more = rest e in omega (arith, first, more)

all-counted : (setup : Setup) (events : List Event) → AllByRecursion (IsOfSender setup) events → length (filter_map offered_in events) ≤ counts events (sender_numbers setup)
all-counted setup [] h = omega arith
all-counted setup (offered p outcome ∷ events) h = let rest = all-counted setup events h.1 in let more = one-more p outcome events (sender_numbers setup) h.0 in omega (arith, rest, more)
all-counted setup (pulled d m visits ∷ events) h = let rest = all-counted setup events h.1 in let more = no-less (pulled d m visits) events (sender_numbers setup) in omega (arith, rest, more)

bounded : (events : List Event) (most : ℕ) (ns : List ℕ) → ((i n : ℕ) → slice_get ns i ≡ Some n → length (numbers_of n events) ≤ most) → counts events ns ≤ length ns * most
bounded events most [] each = omega arith
bounded events most (n ∷ ns) each =
    let first = each 0 n refl in
    let rest = bounded events most ns (λ i m at. each (suc i) m at) in
    let all : (1 + length ns) * most ≡ most + length ns * most = grind arith in
    omega (arith, first, rest, all)

-- accepted packets were offered
accepted-offered : (setup : Setup) (d : ℕ) (events : List Event) → length (filter_map accepted_in (events_at setup d events)) ≤ length (filter_map offered_in events)
accepted-offered setup d [] = omega arith
accepted-offered setup d (offered p outcome ∷ events) = by_test (happens_at setup d (offered p outcome)) outcome (accepted-offered setup d events)
  where
    by_test : (b : Bool) (o : Offered) → length (filter_map accepted_in (events_at setup d events)) ≤ length (filter_map offered_in events)
        → length (filter_map accepted_in (if b then offered p o ∷ events_at setup d events else events_at setup d events)) ≤ suc (length (filter_map offered_in events))
    by_test false o rest = omega (arith, rest)
    by_test true Accepted rest = omega (arith, rest)
    by_test true (Refused q) rest = omega (arith, rest)
    by_test true (Evicted f) rest = omega (arith, rest)
accepted-offered setup d (pulled c m visits ∷ events) = by_test (c == d) (accepted-offered setup d events)
  where
    by_test : (b : Bool) → length (filter_map accepted_in (events_at setup d events)) ≤ length (filter_map offered_in events)
        → length (filter_map accepted_in (if b then pulled c m visits ∷ events_at setup d events else events_at setup d events)) ≤ length (filter_map offered_in events)
    by_test true rest = rest
    by_test false rest = rest

module _ (c : Course) (items : List (List Item)) (buffers : List (Buffer ℕ)) (kept : IsKept c items buffers) (can : CanHappen c.setup c.events) where
  -- what a sender offered is what was taken from its inlet
  pub taken-many : (i n : ℕ) (its : List Item) → slice_get items i ≡ Some its → sender_at c.setup i ≡ Some n → length (offered_of c.events n) ≡ length its
  taken-many i n its here at =
      sym (length-map (offered_of c.events n) packet_length) ∙ sym (ap length (kept.offers i its n here at).lengths) ∙ length-map its item_length

  items-at : (i n : ℕ) → sender_at c.setup i ≡ Some n → (its : List Item) × (slice_get items i ≡ Some its)
  items-at i n at =
      let within = slice_get_within (sender_numbers c.setup) i n at in
      let same = length-map c.setup.senders number_of in
      member items i (omega (arith, within, same, kept.places))

  sent-few : (i n : ℕ) → slice_get (sender_numbers c.setup) i ≡ Some n → length (numbers_of n c.events) ≤ MAX_PACKETS
  sent-few i n at =
      let its = items-at i n at in
      let many = as-many n c.events in
      let same = taken-many i n its.0 its.1 at in
      let few = (kept.offers i its.0 n its.1 at).few in
      omega (arith, many, same, few)

  -- A sender from whose inlet fewer packets were taken than an inlet takes in all can offer the next one.
  pub can-offer : (place : ℕ) (its : List Item) → slice_get items place ≡ Some its → length its < MAX_PACKETS → CanOffer c place
  can-offer place its here few = record {
    there = (let within = slice_get_within items place its here in omega (arith, within, kept.places));
    numbers = λ sender at. (let many = as-many sender c.events in let same = taken-many place sender its here at in omega (arith, many, same, few));
    packets = λ device at.
        (let numbers = length-map c.setup.senders number_of in
        let all = all-counted c.setup c.events can.senders in
        let some = bounded c.events MAX_PACKETS (sender_numbers c.setup) sent-few in
        let accepted = accepted-offered c.setup device c.events in
        omega (arith, numbers, all, some, accepted, kept.places, kept.few_places));
  }
