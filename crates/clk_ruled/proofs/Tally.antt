-- How often senders are named in a list, and how long the list is then.
use Rattle.std.proofs.Common.{◌≡◌, ℕ, ◌+◌, ◌≤◌, ◌==◌, true, false, true≢false, zero, suc, List, [], ◌∷◌, length, map, refl, sym, ◌∙◌, arith, if◌then◌else◌, rules}
use Rattle.std.proofs.lemmas.Grind.{common_steps}
use Rattle.std.proofs.lemmas.Bool.Decides.{nat_tests}
use Rattle.clk_packet.specs.declared.packet.Packet.{Packet}
use Rattle.clk_packet.specs.Lists.{of_sender, stands_in, are_distinct, AreRising}
use Rattle.clk_packet.proofs.Callers.Lists.{rising-distinct}
use Rattle.clk_ruled.specs.Rooms.{named_in, room_of, rooms_in_all}
use Rattle.clk_ruled.specs.inside.Parts.{AreRoomed}
use Rattle.clk_ruled.specs.Rule.{Out, to_puller, put_out, went_out, taken_in, evicted_by}
use Rattle.clk_ruled.proofs.Opening.{roomed-all}
use Rattle.clk_ruled.proofs.SeatSteps.{room-known}

-- how often the sender is named in the list
abbrev pub times : ℕ → List ℕ → ℕ
times s [] = 0
times s (n ∷ named) = if n == s then suc (times s named) else times s named

-- how often these senders are named in all
abbrev pub times_in_all : List ℕ → List ℕ → ℕ
times_in_all [] named = 0
times_in_all (s ∷ senders) named = times s named + times_in_all senders named

none-of-none : (senders : List ℕ) → times_in_all senders [] ≡ 0
none-of-none [] = refl
none-of-none (s ∷ senders) = let rest = none-of-none senders in omega (arith, rest)

-- one is named that isn't among the senders, or that is
other-named : (senders : List ℕ) (n : ℕ) (named : List ℕ) → stands_in n senders ≡ false → times_in_all senders (n ∷ named) ≡ times_in_all senders named
other-named [] n named e = refl
other-named (s ∷ senders) n named e = search (rules, (other-named senders n named))

one-named : (senders : List ℕ) (n : ℕ) (named : List ℕ) → are_distinct senders ≡ true → stands_in n senders ≡ true → times_in_all senders (n ∷ named) ≡ suc (times_in_all senders named)
one-named [] n named a e = absurd (true≢false (sym e))
one-named (s ∷ senders) n named a e = search (rules, other-named, (one-named senders n named))

-- Where each that is named is one of the senders, the list is as long as they are named in all.
pub counted : (senders named : List ℕ) → are_distinct senders ≡ true → ((s : ℕ) → stands_in s senders ≡ false → times s named ≡ 0) → times_in_all senders named ≡ length named
counted senders [] a none = none-of-none senders
counted senders (n ∷ named) a none = search (rules, one-named, (counted senders named a))

-- the senders of packets, and those for whom packets were put out
abbrev pub senders_named : List Packet → List ℕ
senders_named packets = map (λ (p : Packet). p.sender) packets

abbrev pub put_for : List Out → List ℕ
put_for [] = []
put_for (to_puller p ∷ gone) = put_for gone
put_for (put_out e p ∷ gone) = e ∷ put_for gone

pub of-times : (s : ℕ) (packets : List Packet) → length (of_sender s packets) ≡ times s (senders_named packets)
of-times s [] = refl
of-times s (p ∷ packets) = search (rules, (of-times s packets))

pub evicted-times : (s : ℕ) (gone : List Out) → length (evicted_by s gone) ≡ times s (put_for gone)
evicted-times s [] = refl
evicted-times s (o ∷ gone) = search (rules, (evicted-times s gone))

pub named-length : (packets : List Packet) → length (senders_named packets) ≡ length packets
named-length packets = grind (arith, common_steps, nat_tests)

-- what went out was taken, or put out for a sender
pub gone-length : (gone : List Out) → length (taken_in gone) + length (put_for gone) ≡ length (went_out gone)
gone-length [] = refl
gone-length (o ∷ gone) = search (rules, (gone-length gone))

within-rooms : (rooms rest : List (ℕ × ℕ)) (named : List ℕ) → AreRoomed rooms rest → ((s : ℕ) → times s named ≤ room_of rooms s) → times_in_all (named_in rest) named ≤ rooms_in_all rest
within-rooms rooms [] named h fits = omega arith
within-rooms rooms (r ∷ rest) named h fits = search (rules, (within-rooms rooms rest named h.1 fits))

pub unroomed : (rooms : List (ℕ × ℕ)) (s n : ℕ) → n ≤ room_of rooms s → stands_in s (named_in rooms) ≡ false → n ≡ 0
unroomed rooms s zero le e = refl
unroomed rooms s (suc n) le e = absurd (true≢false (sym (room-known rooms s (omega (arith, le))) ∙ e))

-- Where no sender has more packets than it may offer, there are no more than may be offered in all.
pub all-within : (rooms : List (ℕ × ℕ)) (packets : List Packet) → AreRising (named_in rooms) → ((s : ℕ) → length (of_sender s packets) ≤ room_of rooms s) → length packets ≤ rooms_in_all rooms
all-within rooms packets rise fits =
    let named : List ℕ = senders_named packets in
    let few : (s : ℕ) → times s named ≤ room_of rooms s = search (rules, of-times) in
    let within = within-rooms rooms rooms named (roomed-all rooms rise) few in
    let all = counted (named_in rooms) named (rising-distinct (named_in rooms) rise) (λ s e. unroomed rooms s (times s named) (few s) e) in
    omega (arith, named-length)
