-- Accounts of queues that hold all that they accepted, or evicted all of it.
use Rattle.std.proofs.Common.{◌≡◌, ℕ, zero, suc, ◌+◌, ◌<◌, ◌≤◌, ◌==◌, inl, inr, ⊎_elim, Bool, true, false, true≢false, List, [], ◌∷◌, ◌++◌, length, take, drop, refl, sym, ap, ◌∙◌, subst, arith, if◌then◌else◌, append-nil, rules}
use Rattle.std.proofs.lemmas.Grind.{common_steps}
use Rattle.std.proofs.lemmas.Bool.Decides.{nat_tests}
use Rattle.std.proofs.lemmas.Bool.{eqb-true, or_right}
use Rattle.std.proofs.lemmas.List.{length-append}
use Rattle.std.specs.List.{flat_map, AllByRecursion}
use Rattle.clk_packet.specs.declared.packet.Packet.{Packet}
use Rattle.clk_packet.specs.declared.packet.Kind.{Kind}
use Rattle.clk_packet.specs.declared.packet.Kind.TheVariants.{FrontDrop}
use Rattle.clk_packet.specs.Lists.{In, of_sender, stands_in, are_distinct, AreRising}
use Rattle.clk_packet.proofs.Callers.Dealt.{numbered-rise}
use Rattle.clk_packet.proofs.Callers.Lists.{all-append, distinct-parts}
use Rattle.clk_ruled.specs.Account.{IsAccount}
use Rattle.clk_ruled.specs.PacketLists.{packet_numbers, is_packet, has_packet, without, IsOnceEach}
use Rattle.clk_ruled.specs.Queue.{SeatLists, IsDealt, AreNumbered}
use Rattle.clk_ruled.specs.Settle.{accepted_of, evicted_of, accepted_count}
use Rattle.clk_drain.specs.Line.{senders_at}
use Rattle.clk_drain.proofs.Plans.Apart.{has-here}
use Rattle.clk_drain.proofs.Drains.Settling.{own-list}
use Rattle.clk_sched.proofs.Callers.Lists.{of-all, all-weaker}
use Rattle.clk_drain.proofs.Lists.{in-left, in-right, in-either}

-- Numbered packets are of their sender.
numbered-of : (s n : ℕ) (packets : List Packet) → AreNumbered s n packets → AllByRecursion (λ (p : Packet). p.sender ≡ s) packets
numbered-of s n [] h = tt
numbered-of s n (p ∷ packets) h = (h.0, numbered-of s (suc n) packets h.2)

pub numbered-take : (s n k : ℕ) (packets : List Packet) → AreNumbered s n packets → AreNumbered s n (take k packets)
numbered-take s n zero packets h = tt
numbered-take s n (suc k) [] h = tt
numbered-take s n (suc k) (p ∷ packets) h = (h.0, h.1, numbered-take s (suc n) k packets h.2)

-- The first so many are accepted, and the others refused.
refused-all : (packets : List Packet) → IsDealt packets [] packets
refused-all [] = (refl, refl)
refused-all (p ∷ packets) = inr (packets, refl, refused-all packets)

pub dealt-at : (k : ℕ) (packets : List Packet) → IsDealt packets (take k packets) (drop k packets)
dealt-at zero packets = refused-all packets
dealt-at (suc k) [] = (refl, refl)
dealt-at (suc k) (p ∷ packets) = inl (take k packets, refl, dealt-at k packets)

pub accepted-all : (packets : List Packet) → IsDealt packets packets []
accepted-all [] = (refl, refl)
accepted-all (p ∷ packets) = inl (packets, refl, accepted-all packets)

of-own : (s : ℕ) (packets : List Packet) → AllByRecursion (λ (p : Packet). p.sender ≡ s) packets → of_sender s packets ≡ packets
of-own s [] h = refl
of-own s (p ∷ packets) h = search (rules, (of-own s packets h.1))

of-other : (s t : ℕ) (packets : List Packet) → (t == s) ≡ false → AllByRecursion (λ (p : Packet). p.sender ≡ t) packets → of_sender s packets ≡ []
of-other s t [] other h = refl
of-other s t (p ∷ packets) other h = search (rules, (of-other s t packets other h.1))

of-joined : (s : ℕ) (a b : List Packet) → of_sender s (a ++ b) ≡ of_sender s a ++ of_sender s b
of-joined s [] b = refl
of-joined s (p ∷ a) b = search (rules, (of-joined s a b))

-- all that some seats accepted
abbrev pub all_accepted : List SeatLists → List Packet
all_accepted seats = flat_map (λ (l : SeatLists). l.accepted) seats

-- Each seat accepted packets of its sender, by rising number.
abbrev pub AreOwn : List SeatLists → Type 0
AreOwn seats = AllByRecursion (λ (l : SeatLists). AreNumbered l.sender 0 l.accepted) seats

none-of : (seats : List SeatLists) (s : ℕ) → stands_in s (senders_at seats) ≡ false → accepted_of seats s ≡ []
none-of [] s none = refl
none-of (l ∷ seats) s none = grind (arith, common_steps, nat_tests, (none-of seats s))

from-all : (seats : List SeatLists) (s : ℕ) → AreOwn seats → are_distinct (senders_at seats) ≡ true → of_sender s (all_accepted seats) ≡ accepted_of seats s
from-all [] s own apart = refl
from-all (l ∷ seats) s own apart = of-joined s l.accepted (all_accepted seats) ∙ ap (λ rest. of_sender s l.accepted ++ rest) (from-all seats s own.1 parts.1) ∙ by_test (l.sender == s) refl
  where
    parts : (stands_in l.sender (senders_at seats) ≡ false) × (are_distinct (senders_at seats) ≡ true)
    parts = distinct-parts l.sender (senders_at seats) apart

    by_test : (b : Bool) → (l.sender == s) ≡ b → of_sender s l.accepted ++ accepted_of seats s ≡ (if b then l.accepted else accepted_of seats s)
    by_test true same =
        let is : l.sender ≡ s = eqb-true l.sender s same in
        ap (λ first. first ++ accepted_of seats s) (of-own s l.accepted (subst (λ t. AllByRecursion (λ (p : Packet). p.sender ≡ t) l.accepted) is (numbered-of l.sender 0 l.accepted own.0)))
        ∙ ap (λ rest. l.accepted ++ rest) (none-of seats s (subst (λ t. stands_in t (senders_at seats) ≡ false) is parts.0)) ∙ append-nil l.accepted
    by_test false other = ap (λ first. first ++ accepted_of seats s) (of-other s l.sender l.accepted other (numbered-of l.sender 0 l.accepted own.0))

all-known : (seats : List SeatLists) → AreOwn seats → AllByRecursion (λ (p : Packet). stands_in p.sender (senders_at seats) ≡ true) (all_accepted seats)
all-known [] own = tt
all-known (l ∷ seats) own =
    all-append (λ (p : Packet). stands_in p.sender (senders_at (l ∷ seats)) ≡ true) l.accepted (all_accepted seats)
    (all-weaker (λ (p : Packet). p.sender ≡ l.sender) _ l.accepted (λ p is. subst (λ t. stands_in t (l.sender ∷ senders_at seats) ≡ true) (sym is) (has-here l.sender (senders_at seats))) (numbered-of l.sender 0 l.accepted own.0))
    (all-weaker (λ (p : Packet). stands_in p.sender (senders_at seats) ≡ true) _ (all_accepted seats) (λ p h. or_right (l.sender == p.sender) (stands_in p.sender (senders_at seats)) h) (all-known seats own.1))

all-rise : (seats : List SeatLists) (s : ℕ) → AreOwn seats → AreRising (packet_numbers (accepted_of seats s))
all-rise [] s own = tt
all-rise (l ∷ seats) s own = search (rules, (numbered-rise l.sender 0 l.accepted own.0), (all-rise seats s own.1))

none-evicted : (seats : List SeatLists) (s : ℕ) → AllByRecursion (λ (l : SeatLists). l.evicted ≡ []) seats → evicted_of seats s ≡ []
none-evicted [] s none = refl
none-evicted (l ∷ seats) s none = search (rules, (none-evicted seats s none.1))

none-evicted-in : (seats : List SeatLists) (senders : List ℕ) → AllByRecursion (λ (l : SeatLists). l.evicted ≡ []) seats → flat_map (evicted_of seats) senders ≡ []
none-evicted-in seats [] none = refl
none-evicted-in seats (s ∷ senders) none = search (rules, (none-evicted seats s none), (none-evicted-in seats senders none))

without-none : (packets : List Packet) → without packets [] ≡ packets
without-none [] = refl
without-none (p ∷ packets) = ap (λ rest. p ∷ rest) (without-none packets)

count-all : (seats : List SeatLists) → length (all_accepted seats) ≡ accepted_count seats
count-all [] = refl
count-all (l ∷ seats) = length-append l.accepted (all_accepted seats) ∙ ap (λ n. length l.accepted + n) (count-all seats)

-- A queue that evicted nothing and holds all that it accepted has an account.
pub tail-account : (kind : Kind) (capacity : ℕ) (seats : List SeatLists) → AreOwn seats → are_distinct (senders_at seats) ≡ true → AllByRecursion (λ (l : SeatLists). l.evicted ≡ []) seats → accepted_count seats ≤ capacity
    → IsAccount kind capacity (senders_at seats) (accepted_of seats) (evicted_of seats) [] (all_accepted seats)
tail-account kind capacity seats own apart none fits =
    let out : flat_map (evicted_of seats) (senders_at seats) ≡ [] = none-evicted-in seats (senders_at seats) none in record {
      balances = λ s. ap (without (accepted_of seats s)) out ∙ without-none (accepted_of seats s) ∙ sym (from-all seats s own apart);
      is_last = λ s. ([], sym (from-all seats s own apart));
      rises = λ s. all-rise seats s own;
      was_taken = λ p among. absurd (subst (In p) out among);
      once = subst IsOnceEach (sym out) tt;
      gives_known = λ p among. absurd among;
      holds_known = λ p. of-all (λ (p : Packet). stands_in p.sender (senders_at seats) ≡ true) p (all_accepted seats) (all-known seats own);
      fits = subst (λ n. n ≤ capacity) (sym (count-all seats)) fits;
      tail_drop = λ _ s. none-evicted seats s none;
    }

-- What was evicted of each seat is what was accepted of it.
abbrev pub AreAllOut : List SeatLists → Type 0
AreAllOut seats = AllByRecursion (λ (l : SeatLists). l.evicted ≡ l.accepted) seats

out-of : (seats : List SeatLists) (s : ℕ) → AreAllOut seats → evicted_of seats s ≡ accepted_of seats s
out-of [] s out = refl
out-of (l ∷ seats) s out = search (rules, (out-of seats s out.1))

out-by : (all seats : List SeatLists) → AllByRecursion (λ (l : SeatLists). evicted_of all l.sender ≡ l.accepted) seats → flat_map (evicted_of all) (senders_at seats) ≡ all_accepted seats
out-by all [] h = refl
out-by all (l ∷ seats) h = λ i. h.0 i ++ out-by all seats h.1 i

out-in : (seats : List SeatLists) → AreAllOut seats → are_distinct (senders_at seats) ≡ true → flat_map (evicted_of seats) (senders_at seats) ≡ all_accepted seats
out-in seats out apart =
    out-by seats seats
    (all-weaker (λ (l : SeatLists). accepted_of seats l.sender ≡ l.accepted) (λ (l : SeatLists). evicted_of seats l.sender ≡ l.accepted) seats (λ l e. out-of seats l.sender out ∙ e) (own-list (λ l. l.accepted) seats apart))

-- A list has each of its packets.
has-own : (packets : List Packet) (p : Packet) → In p packets → has_packet packets p ≡ true
has-own [] p among = absurd among
has-own (q ∷ packets) p (inl is) = grind (arith, common_steps, nat_tests)
has-own (q ∷ packets) p (inr later) = or_right (is_packet p q) (has_packet packets p) (has-own packets p later)

without-all : (packets away : List Packet) → ((p : Packet) → In p packets → has_packet away p ≡ true) → without packets away ≡ []
without-all [] away h = refl
without-all (p ∷ packets) away h = search (rules, (h p (inl refl)), (without-all packets away (λ q among. h q (inr among))))

in-all : (seats : List SeatLists) (s : ℕ) (p : Packet) → In p (accepted_of seats s) → In p (all_accepted seats)
in-all [] s p among = absurd among
in-all (l ∷ seats) s p among = by_test (in-all seats s p) (l.sender == s) among
  where
    by_test : (In p (accepted_of seats s) → In p (all_accepted seats)) → (b : Bool) → In p (if b then l.accepted else accepted_of seats s) → In p (l.accepted ++ all_accepted seats)
    by_test later true here = in-left p l.accepted (all_accepted seats) here
    by_test later false h = in-right p l.accepted (all_accepted seats) (later h)

-- Each packet was accepted of its sender.
in-own : (seats : List SeatLists) (p : Packet) → AreOwn seats → are_distinct (senders_at seats) ≡ true → In p (all_accepted seats) → In p (accepted_of seats p.sender)
in-own [] p own apart among = absurd among
in-own (l ∷ seats) p own apart among = ⊎_elim here (later (in-own seats p own.1 (distinct-parts l.sender (senders_at seats) apart).1)) (in-either p l.accepted (all_accepted seats) among)
  where
    here : In p l.accepted → In p (if l.sender == p.sender then l.accepted else accepted_of seats p.sender)
    here h = let is = of-all (λ (p : Packet). p.sender ≡ l.sender) p l.accepted (numbered-of l.sender 0 l.accepted own.0) h in search rules

    later : (In p (all_accepted seats) → In p (accepted_of seats p.sender)) → In p (all_accepted seats) → In p (if l.sender == p.sender then l.accepted else accepted_of seats p.sender)
    later rest h = by_test (l.sender == p.sender) refl
      where
        by_test : (b : Bool) → (l.sender == p.sender) ≡ b → In p (if b then l.accepted else accepted_of seats p.sender)
        by_test true same =
            let none = (distinct-parts l.sender (senders_at seats) apart).0 in
            let known = of-all (λ (p : Packet). stands_in p.sender (senders_at seats) ≡ true) p (all_accepted seats) (all-known seats own.1) h in
            absurd (true≢false (sym known ∙ subst (λ s. stands_in s (senders_at seats) ≡ false) (eqb-true l.sender p.sender same) none))
        by_test false other = rest h

-- No packet was accepted twice.
once-rising : (packets : List Packet) → AreRising (packet_numbers packets) → IsOnceEach packets
once-rising [] h = tt
once-rising (p ∷ packets) h = (none-here packets h.0, once-rising packets h.1)
  where
    none-here : (others : List Packet) → AllByRecursion (λ k. p.number < k) (packet_numbers others) → has_packet others p ≡ false
    none-here [] above = refl
    none-here (q ∷ others) above = grind (arith, common_steps, nat_tests, (none-here others above.1))

none-other : (p : Packet) (packets : List Packet) → AllByRecursion (λ (q : Packet). (p.sender == q.sender) ≡ false) packets → has_packet packets p ≡ false
none-other p [] others = refl
none-other p (q ∷ packets) others = search (rules, (none-other p packets others.1))

has-joined : (p : Packet) (a b : List Packet) → has_packet a p ≡ false → has_packet b p ≡ false → has_packet (a ++ b) p ≡ false
has-joined p [] b h k = k
has-joined p (q ∷ a) b h k = grind (arith, common_steps, nat_tests, (has-joined p a b))

once-joined : (a b : List Packet) → IsOnceEach a → IsOnceEach b → AllByRecursion (λ (p : Packet). has_packet b p ≡ false) a → IsOnceEach (a ++ b)
once-joined [] b h k none = k
once-joined (p ∷ a) b h k none = (has-joined p a b h.0 none.0, once-joined a b h.1 k none.1)

once-all : (seats : List SeatLists) → AreOwn seats → are_distinct (senders_at seats) ≡ true → IsOnceEach (all_accepted seats)
once-all [] own apart = tt
once-all (l ∷ seats) own apart =
    once-joined l.accepted (all_accepted seats) (once-rising l.accepted (numbered-rise l.sender 0 l.accepted own.0)) (once-all seats own.1 parts.1)
    (all-weaker (λ (p : Packet). p.sender ≡ l.sender) (λ (p : Packet). has_packet (all_accepted seats) p ≡ false) l.accepted (λ p is. none-other p (all_accepted seats) (others p is)) (numbered-of l.sender 0 l.accepted own.0))
  where
    parts : (stands_in l.sender (senders_at seats) ≡ false) × (are_distinct (senders_at seats) ≡ true)
    parts = distinct-parts l.sender (senders_at seats) apart

    others : (p : Packet) → p.sender ≡ l.sender → AllByRecursion (λ (q : Packet). (p.sender == q.sender) ≡ false) (all_accepted seats)
    others p is = all-weaker (λ (q : Packet). stands_in q.sender (senders_at seats) ≡ true) _ (all_accepted seats) (λ q known. let none = parts.0 in grind (arith, common_steps, nat_tests, eqb-true)) (all-known seats own.1)

-- A queue that evicted all that it accepted has an account.
pub front-account : (capacity : ℕ) (seats : List SeatLists) → AreOwn seats → are_distinct (senders_at seats) ≡ true → AreAllOut seats → IsAccount FrontDrop capacity (senders_at seats) (accepted_of seats) (evicted_of seats) [] []
front-account capacity seats own apart out =
    let all : flat_map (evicted_of seats) (senders_at seats) ≡ all_accepted seats = out-in seats out apart in record {
      balances = λ s. ap (without (accepted_of seats s)) all ∙ without-all (accepted_of seats s) (all_accepted seats) (λ p among. has-own (all_accepted seats) p (in-all seats s p among));
      is_last = λ s. (accepted_of seats s, sym (append-nil (accepted_of seats s)));
      rises = λ s. all-rise seats s own;
      was_taken = λ p among. in-own seats p own apart (subst (In p) all among);
      once = subst IsOnceEach (sym all) (once-all seats own apart);
      gives_known = λ p among. absurd among;
      holds_known = λ p among. absurd among;
      fits = omega arith;
      tail_drop = λ e. absurd (cc);
    }
