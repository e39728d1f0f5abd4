-- Tallies in order: they rise by their senders, each is found, and they count what their seats count.
use Rattle.std.proofs.Common.{◌≡◌, ℕ, ◌+◌, ◌≤◌, ◌<◌, ◌==◌, ⊎_elim, Bool, true, false, List, [], ◌∷◌, map, filter, length, filter_map, Some, refl, ap, ◌∙◌, arith, if◌then◌else◌, eq-eqb, eq-zero-or-pos, suc, sum_by, rules}
use Rattle.std.proofs.lemmas.Grind.{common_steps}
use Rattle.std.proofs.lemmas.Bool.Decides.{nat_tests}
use Rattle.std.specs.List.{AllByRecursion, cons_option}
use Rattle.std.specs.List.Sorted.{IsNonDecreasingBy}
use Rattle.std.proofs.lemmas.Bool.{eqb-true}
use Rattle.std.proofs.lemmas.List.{map-append, nil_from_length}
use Rattle.std.proofs.lemmas.List.Elements.{All-from_recursion, recursion_from_All}
use Rattle.std.proofs.lemmas.List.Sorted.{All-permutation, IsPermutation-sym, sum_by-IsPermutation}
use Rattle.std.proofs.lemmas.List.Sums.{sum_by-cons}
use Rattle.clk_packet.specs.declared.packet.Packet.{Packet}
use Rattle.clk_packet.specs.declared.tally.Tally.{Tally}
use Rattle.clk_packet.specs.Lists.{stands_in, are_distinct, of_sender, AreRising}
use Rattle.clk_packet.specs.Dealt.{IsTallyOf}
use Rattle.clk_tree.specs.PlanParts.{SharedQueue}
use Rattle.clk_ruled.specs.PacketLists.{has_packet}
use Rattle.clk_ruled.specs.Queue.{SeatLists}
use Rattle.clk_ruled.specs.Settle.{all_evicted, accepted_count, lost_count, tally_of}
use Rattle.clk_drain.specs.Line.{LineLists, seats_of, seats_in, senders_at}
use Rattle.clk_drain.specs.Outcome.{Device, tally_for, in_all}
use Rattle.clk_drain.specs.Closing.{tallies_of, tallies_in, AreInOrder}
use Rattle.clk_sched.proofs.Callers.Lists.{all-split, all-weaker}
use Rattle.clk_drain.proofs.Lists.{all-unmap}

-- This tally accounts for all packets that its sender sent to a queue of a device.
abbrev pub IsTallied : (ℕ → List Packet) → Device → SharedQueue → Tally → Type 0
IsTallied sent d q t = IsTallyOf (sent t.sender) (of_sender t.sender d.emitted) q.kind t

-- the senders of tallies
abbrev pub tellers : List Tally → List ℕ
tellers tallies = map (λ (t : Tally). t.sender) tallies

abbrev one_if : Bool → ℕ
one_if b = if b then 1 else 0

-- how many of the tallies are a sender's
abbrev times : ℕ → List Tally → ℕ
times s tallies = sum_by (λ (t : Tally). one_if (t.sender == s)) tallies

times-more : (s : ℕ) (t : Tally) (tallies : List Tally) → times s (t ∷ tallies) ≡ one_if (t.sender == s) + times s tallies
times-more s t tallies = search (rules, sum_by-cons)

times-none : (s : ℕ) (tallies : List Tally) → stands_in s (tellers tallies) ≡ false → times s tallies ≡ 0
times-none s [] e = refl
times-none s (t ∷ tallies) e = search (rules, (times-none s tallies))

-- senders that stand apart have one tally each
times-once : (s : ℕ) (tallies : List Tally) → are_distinct (tellers tallies) ≡ true → times s tallies ≤ 1
times-once s [] h = omega arith
times-once s (t ∷ tallies) h = grind (arith, common_steps, nat_tests, times-more, times-none, eqb-true, (times-once s tallies))

-- a sender below or at all, of which none is its own, is below all
below-all : (n : ℕ) (tallies : List Tally) → AllByRecursion (λ (t : Tally). n ≤ t.sender) tallies → times n tallies ≡ 0 → AllByRecursion (λ m. n < m) (tellers tallies)
below-all n [] h e = tt
below-all n (t ∷ tallies) h e = grind (arith, common_steps, nat_tests, (below-all n tallies h.1))

rise-sorted : (tallies : List Tally) → IsNonDecreasingBy (λ (t : Tally). t.sender) tallies → ((s : ℕ) → times s tallies ≤ 1) → AreRising (tellers tallies)
rise-sorted [] order few = tt
rise-sorted (t ∷ tallies) order few = (
  below-all t.sender tallies (recursion_from_All (λ (u : Tally). t.sender ≤ u.sender) tallies (λ k d lt. order 0 (suc k) d (omega arith) (omega (arith, lt))))
      (let one = ap one_if (eq-eqb t.sender t.sender refl) in search (rules, times-more)),
  rise-sorted tallies (λ i j d le lt. order (suc i) (suc j) d (omega (arith, le)) (omega (arith, lt))) (λ s. let f = few s in let more = times-more s t tallies in omega (arith, more, f)),
)

-- Tallies in order rise, where their senders stand apart.
pub in-order-rise : (tallies sorted : List Tally) → are_distinct (tellers tallies) ≡ true → AreInOrder tallies sorted → AreRising (tellers sorted)
in-order-rise tallies sorted apart h =
    rise-sorted sorted h.order (λ s. let same = sum_by-IsPermutation (λ (t : Tally). one_if (t.sender == s)) tallies sorted h.same in let few = times-once s tallies apart in omega (arith, same, few))

-- one tally more, of another sender, is passed over
found-later : (t : Tally) (all some : List Tally) → AllByRecursion (λ m. t.sender < m) (tellers some) → AllByRecursion (λ (u : Tally). tally_for all u.sender ≡ Some u) some
    → AllByRecursion (λ (u : Tally). tally_for (t ∷ all) u.sender ≡ Some u) some
found-later t all [] below h = tt
found-later t all (u ∷ some) below h = search (rules, (found-later t all some below.1 h.1))

pub found-rising : (tallies : List Tally) → AreRising (tellers tallies) → AllByRecursion (λ (t : Tally). tally_for tallies t.sender ≡ Some t) tallies
found-rising [] rise = tt
found-rising (t ∷ tallies) rise = search (rules, (found-later t tallies tallies rise.0 (found-rising tallies rise.1)), (found-rising tallies rise.1))

-- Each of the tallies is found among those in order.
pub in-order-found : (tallies sorted : List Tally) → are_distinct (tellers tallies) ≡ true → AreInOrder tallies sorted → AllByRecursion (λ (t : Tally). tally_for sorted t.sender ≡ Some t) tallies
in-order-found tallies sorted apart h = let P : Tally → Type 0 = λ (t : Tally). tally_for sorted t.sender ≡ Some t in
    recursion_from_All P tallies (All-permutation P sorted tallies (IsPermutation-sym tallies sorted h.same) (All-from_recursion P sorted (found-rising sorted (in-order-rise tallies sorted apart h))))

-- what holds of each tally holds of each of those in order
pub in-order-all : (P : Tally → Type 0) (tallies sorted : List Tally) → AreInOrder tallies sorted → AllByRecursion P tallies → AllByRecursion P sorted
in-order-all P tallies sorted h all = recursion_from_All P sorted (All-permutation P tallies sorted h.same (All-from_recursion P tallies all))

-- The tallies of lines have the senders of their seats.
tellers-line : (out : List Packet) (seats : List SeatLists) → tellers (map (tally_of out) seats) ≡ senders_at seats
tellers-line out [] = refl
tellers-line out (c ∷ seats) = ap (λ m. c.sender ∷ m) (tellers-line out seats)

pub tellers-in : (lines : List LineLists) → tellers (tallies_in lines) ≡ senders_at (seats_in lines)
tellers-in [] = refl
tellers-in (l ∷ lines) = search (rules, map-append, tellers-line, (tellers-in lines))

-- each seat's tally is found
abbrev pub AreFound : List Tally → List Packet → List SeatLists → Type 0
AreFound tallies out seats = AllByRecursion (λ (c : SeatLists). tally_for tallies c.sender ≡ Some (tally_of out c)) seats

pub each-found : (tallies : List Tally) (lines : List LineLists) → AllByRecursion (λ (t : Tally). tally_for tallies t.sender ≡ Some t) (tallies_in lines)
    → AllByRecursion (λ (l : LineLists). AreFound tallies (all_evicted (seats_of l)) (seats_of l)) lines
each-found tallies [] h = tt
each-found tallies (l ∷ lines) h =
    let P : Tally → Type 0 = λ (t : Tally). tally_for tallies t.sender ≡ Some t in
    let both = all-split P (tallies_of l) (tallies_in lines) h in (all-unmap P (tally_of (all_evicted (seats_of l))) (seats_of l) both.0, each-found tallies lines both.1)

-- where nothing was put out no packet passes as put out
none-out : (packets : List Packet) → filter (has_packet []) packets ≡ []
none-out [] = refl
none-out (p ∷ packets) = none-out packets

pub none-filtered : (out packets : List Packet) → out ≡ [] → filter (has_packet out) packets ≡ []
none-filtered out packets e = search (rules, none-out)

pub no-evicted : (seats : List SeatLists) → AllByRecursion (λ (c : SeatLists). c.evicted ≡ []) seats → all_evicted seats ≡ []
no-evicted [] h = refl
no-evicted (c ∷ seats) h = search (rules, (no-evicted seats h.1))

-- the count of a sender that has a tally, and those of the others
in-all-next : (count : Tally → ℕ) (tallies : List Tally) (s : ℕ) (senders : List ℕ) (t : Tally) → tally_for tallies s ≡ Some t → in_all count tallies (s ∷ senders) ≡ count t + in_all count tallies senders
in-all-next count tallies s senders t found = ap (λ o. sum_by count (cons_option o (filter_map (tally_for tallies) senders))) found ∙ sum_by-cons count t (filter_map (tally_for tallies) senders)

-- the tallies count as many packets accepted as the seats
pub accepted-same : (tallies : List Tally) (out : List Packet) (seats : List SeatLists) → AreFound tallies out seats → in_all (λ t. length t.accepted) tallies (senders_at seats) ≡ accepted_count seats
accepted-same tallies out [] found = refl
accepted-same tallies out (c ∷ seats) found =
    in-all-next (λ t. length t.accepted) tallies c.sender (senders_at seats) (tally_of out c) found.0 ∙ ap (λ n. length c.accepted + n) (accepted-same tallies out seats found.1)

-- how many packets a tally has as refused or evicted
abbrev lost_by : Tally → ℕ
lost_by t = length t.refused + length t.evicted

-- Where no seat lost a packet no tally lost one.
abbrev LostNone : SeatLists → Type 0
LostNone c = (c.refused ≡ []) × (c.evicted ≡ [])

nothing-lost : (seats : List SeatLists) → lost_count seats ≡ 0 → AllByRecursion LostNone seats
nothing-lost [] e = tt
nothing-lost (c ∷ seats) e = search (rules, nil_from_length, (nothing-lost seats (omega (arith, e))))

lost-none : (tallies : List Tally) (out : List Packet) (seats : List SeatLists) → AreFound tallies out seats → out ≡ [] → AllByRecursion LostNone seats → in_all lost_by tallies (senders_at seats) ≡ 0
lost-none tallies out [] found none h = refl
lost-none tallies out (c ∷ seats) found none h =
    let next = in-all-next lost_by tallies c.sender (senders_at seats) (tally_of out c) found.0 in
    let refused = ap length h.0.0 in
    let evicted = ap length (none-filtered out c.accepted none) in
    let rest = lost-none tallies out seats found.1 none h.1 in omega (arith, next, refused, evicted, rest)

pub lost-some : (tallies : List Tally) (seats : List SeatLists) → AreFound tallies (all_evicted seats) seats → 0 < in_all lost_by tallies (senders_at seats) → 0 < lost_count seats
lost-some tallies seats found some = ⊎_elim
    (λ (e : lost_count seats ≡ 0).
    let all = nothing-lost seats e in
    let out = no-evicted seats (all-weaker LostNone (λ (c : SeatLists). c.evicted ≡ []) seats (λ c h. h.1) all) in
    search (rules, lost-none))
    (λ (lt : 0 < lost_count seats). lt)
    (eq-zero-or-pos (lost_count seats))
