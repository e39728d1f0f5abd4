-- Each packet that a sender offered is out of the router once at most, and once where nothing is left. All by counts of numbers.
use Rattle.std.proofs.Common.{◌≡◌, inl, inr, ℕ, zero, suc, ◌+◌, ◌<◌, ◌≤◌, ◌==◌, nat_lt, Bool, true, false, if◌then◌else◌, List, [], ◌∷◌, ◌++◌, length, refl, sym, ap, ◌∙◌, arith, rules}
use Rattle.std.specs.List.{filter_map, range_with_len}
use Rattle.std.proofs.lemmas.Bool.{false≢true}
use Rattle.std.proofs.lemmas.Bool.Decides.{nat_tests}
use Rattle.std.proofs.lemmas.List.{length-map}
use Rattle.clk_packet.specs.declared.packet.Packet.{Packet}
use Rattle.clk_packet.specs.Lists.{of_sender, stands_in, are_distinct}
use Rattle.clk_packet.proofs.Callers.Lists.{distinct-more}
use Rattle.clk_ring.specs.QueueHistory.{held}
use Rattle.clk_sched.specs.Tree.{Tree}
use Rattle.clk_sched.specs.Results.{heads}
use Rattle.clk_tree.specs.declared.plan.parts.SenderSpec.{SenderSpec}
use Rattle.clk_packet.specs.Dealt.{packet_numbers, IsDealt}
use Rattle.clk_router.specs.Events.{Room, Setup, Event, CanHappen, offered, pulled, numbers_of, events_at, log_of, accepted_in, refused_in, evicted_in, history}
use Rattle.clk_router.specs.Settled.{IsSenderAccounted, offered_of, emitted_by, out_of, IsOutOnce, IsAllOut}

-- how often a number stands in a list
abbrev pub times : ℕ → List ℕ → ℕ
times n [] = 0
times n (m ∷ ms) = (if m == n then 1 else 0) + times n ms

-- how many packets have a number
abbrev pub of_number : ℕ → List Packet → ℕ
of_number n packets = times n (packet_numbers packets)

pub times-append : (n : ℕ) (xs ys : List Packet) → of_number n (xs ++ ys) ≡ of_number n xs + of_number n ys
times-append n [] ys = omega arith
times-append n (x ∷ xs) ys = let rest = times-append n xs ys in omega (arith, rest)

pub times-dealt : (n : ℕ) (packets a b : List Packet) → IsDealt packets a b → of_number n packets ≡ of_number n a + of_number n b
times-dealt n [] a b h = let x = ap (of_number n) h.0 in let y = ap (of_number n) h.1 in omega (arith, x, y)
times-dealt n (p ∷ packets) a b (inl x) = let here = ap (of_number n) x.1 in let rest = times-dealt n packets x.0 b x.2 in omega (arith, here, rest)
times-dealt n (p ∷ packets) a b (inr x) = let here = ap (of_number n) x.1 in let rest = times-dealt n packets a x.0 x.2 in omega (arith, here, rest)

-- a number stands once in a range that has it, and in no other
times-below : (n a k : ℕ) → n < a → times n (range_with_len a k) ≡ 0
times-below n a zero below = refl
times-below n a (suc k) below = search (rules, (times-below n (a + 1) k (omega arith)))

pub times-within : (n a k : ℕ) → a ≤ n → n < a + k → times n (range_with_len a k) ≡ 1
times-within n a zero least below = absurd (omega (arith, least, below))
times-within n a (suc k) least below = by_test (a == n) refl (λ more. times-within n (a + 1) k more (omega (arith, below)))
  where
    by_test : (b : Bool) → (a == n) ≡ b → (a + 1 ≤ n → times n (range_with_len (a + 1) k) ≡ 1) → times n (range_with_len a (suc k)) ≡ 1
    by_test b e later = search (rules, times-below)

pub times-above : (n a k : ℕ) → a + k ≤ n → times n (range_with_len a k) ≡ 0
times-above n a zero above = refl
times-above n a (suc k) above = search (rules, (times-above n (a + 1) k (omega arith)))

-- a number stands in a list where it stands there once or more
pub none-stands : (n : ℕ) (ms : List ℕ) → times n ms ≡ 0 → stands_in n ms ≡ false
none-stands n [] e = refl
none-stands n (m ∷ ms) e = search (rules, (none-stands n ms))

pub some-stands : (n : ℕ) (ms : List ℕ) → 1 ≤ times n ms → stands_in n ms ≡ true
some-stands n [] some = absurd (omega (arith, some))
some-stands n (m ∷ ms) some = search (rules, (some-stands n ms))

pub once-distinct : (ms : List ℕ) → ((n : ℕ) → times n ms ≤ 1) → are_distinct ms ≡ true
once-distinct [] once = refl
once-distinct (m ∷ ms) once =
    distinct-more m ms (none-stands m ms (let same : (m == m) ≡ true = grind (arith, nat_tests) in let is = ap (λ (b : Bool). (if b then 1 else 0) + times m ms) same in let here = once m in omega (arith, is, here)))
    (once-distinct ms (λ n. let here = once n in omega (arith, here)))

-- the numbers of what a sender offered
numbers-offered : (s : ℕ) (events : List Event) → packet_numbers (offered_of events s) ≡ numbers_of s events
numbers-offered s [] = refl
numbers-offered s (offered p outcome ∷ events) = search (rules, (numbers-offered s events))
numbers-offered s (pulled d m visits ∷ events) = numbers-offered s events

-- it has offered as many packets
pub offered-count : (s : ℕ) (events : List Event) → length (offered_of events s) ≡ length (numbers_of s events)
offered-count s events = sym (length-map (offered_of events s) (λ (p : Packet). p.number)) ∙ ap length (numbers-offered s events)

-- a sender offered each number once, up to how many packets it offered
pub offered-times : (setup : Setup) (events : List Event) → CanHappen setup events → (s n : ℕ) → of_number n (offered_of events s) ≡ times n (range_with_len 0 (length (offered_of events s)))
offered-times setup events can s n =
    ap (times n) (numbers-offered s events ∙ can.numbered s) ∙ ap (λ k. times n (range_with_len 0 k)) (sym (offered-count s events))

-- The packets of a number that are out, or held in the tree or the queue, are as many as were offered.
pub out-times : (setup : Setup) (events : List Event) (s : SenderSpec) (room : Room) (tree : Tree) → IsSenderAccounted setup events s room tree → (n : ℕ)
    → of_number n (out_of setup events s room) + (of_number n (of_sender s.number (heads tree (log_of (events_at setup room.device events)))) + of_number n (of_sender s.number (held (history setup s.queue events)))) ≡ of_number n (offered_of events s.number)
out-times setup events s room tree a n =
    let refused = of_sender s.number (filter_map refused_in events) in
    let evicted = of_sender s.number (filter_map evicted_in events) in
    let accepted = of_sender s.number (filter_map accepted_in events) in
    let its_emitted = of_sender s.number (emitted_by setup room.device events) in
    let offered_are = times-dealt n (offered_of events s.number) accepted refused a.offered_are in
    let gone_are = times-dealt n a.gone evicted a.given a.gone_are in
    let accepted_are = ap (of_number n) a.accepted_are ∙ times-append n a.gone (of_sender s.number (held (history setup s.queue events))) in
    let given_are = ap (of_number n) a.given_are ∙ times-append n its_emitted (of_sender s.number (heads tree (log_of (events_at setup room.device events)))) in
    let first = times-append n refused (evicted ++ its_emitted) in
    let second = times-append n evicted its_emitted in
    omega (arith, offered_are, gone_are, accepted_are, given_are, first, second)

-- Each packet is out once at most.
pub out-once : (setup : Setup) (events : List Event) (s : SenderSpec) (room : Room) (tree : Tree) → CanHappen setup events → IsSenderAccounted setup events s room tree → IsOutOnce setup events s room
out-once setup events s room tree can a =
    record {
      once = once-distinct (packet_numbers (out_of setup events s room)) (λ n. let back = out-times setup events s room tree a n in let all = offered-times setup events can s.number n in let most = at-most n in omega (arith, back, all, most));
      was_offered = λ n stands. within n stands (nat_lt n (length (offered_of events s.number))) refl;
    }
  where
    by_place : (n : ℕ) (b : Bool) → nat_lt n (length (offered_of events s.number)) ≡ b → times n (range_with_len 0 (length (offered_of events s.number))) ≤ 1
    by_place n true e = let one = times-within n 0 (length (offered_of events s.number)) (omega arith) (grind (arith, nat_tests, e)) in omega (arith, one)
    by_place n false e = let none = times-above n 0 (length (offered_of events s.number)) (grind (arith, nat_tests, e)) in omega (arith, none)

    at-most : (n : ℕ) → times n (range_with_len 0 (length (offered_of events s.number))) ≤ 1
    at-most n = by_place n (nat_lt n (length (offered_of events s.number))) refl

    within : (n : ℕ) → stands_in n (packet_numbers (out_of setup events s room)) ≡ true → (b : Bool) → nat_lt n (length (offered_of events s.number)) ≡ b → n < length (offered_of events s.number)
    within n stands true e = grind (arith, nat_tests, e)
    within n stands false e =
        let none = times-above n 0 (length (offered_of events s.number)) (grind (arith, nat_tests, e)) in
        let back = out-times setup events s room tree a n in
        let all = offered-times setup events can s.number n in
        absurd (false≢true (sym (none-stands n (packet_numbers (out_of setup events s room)) (omega (arith, none, back, all))) ∙ stands))

-- Where nothing is held, each packet is out.
pub all-out : (setup : Setup) (events : List Event) (s : SenderSpec) (room : Room) (tree : Tree) → CanHappen setup events → IsSenderAccounted setup events s room tree → held (history setup s.queue events) ≡ []
    → heads tree (log_of (events_at setup room.device events)) ≡ [] → IsAllOut setup events s room
all-out setup events s room tree can a no_held no_heads n = by_place (nat_lt n (length (offered_of events s.number))) refl
  where
    its : of_number n (out_of setup events s room) ≡ times n (range_with_len 0 (length (offered_of events s.number)))
    its =
        let back = out-times setup events s room tree a n in
        let all = offered-times setup events can s.number n in
        let h = ap (λ l. of_number n (of_sender s.number l)) no_heads in
        let q = ap (λ l. of_number n (of_sender s.number l)) no_held in
        omega (arith, back, all, h, q)

    by_place : (b : Bool) → nat_lt n (length (offered_of events s.number)) ≡ b → stands_in n (packet_numbers (out_of setup events s room)) ≡ b
    by_place true e = some-stands n (packet_numbers (out_of setup events s room)) (let one = times-within n 0 (length (offered_of events s.number)) (omega arith) (grind (arith, nat_tests, e)) in omega (arith, one, its))
    by_place false e = none-stands n (packet_numbers (out_of setup events s room)) (let none = times-above n 0 (length (offered_of events s.number)) (grind (arith, nat_tests, e)) in omega (arith, none, its))
