-- A device always takes one packet more: its senders are few, and each has offered fewer than 2^32 packets.
use Rattle.std.proofs.Common.{◌≡◌, ℕ, ◌+◌, ◌*◌, ◌<◌, ◌≤◌, ◌^◌, ◌==◌, ◌||◌, Bool, true, false, if◌then◌else◌, List, [], ◌∷◌, length, map, refl, arith}
use Rattle.std.specs.List.{AllByRecursion, filter_map, list_any}
use Rattle.std.proofs.lemmas.Bool.{false≢true}
use Rattle.std.proofs.lemmas.Bool.Decides.{nat_tests}
use Rattle.clk_packet.specs.declared.packet.Packet.{Packet}
use Rattle.clk_packet.specs.declared.packet.Offered.{Offered}
use Rattle.clk_packet.specs.declared.packet.Offered.TheVariants.{Accepted, Refused, Evicted}
use Rattle.clk_tree.specs.declared.plan.parts.SenderSpec.{SenderSpec}
use Rattle.clk_tree.specs.PlanParts.{number_of}
use Rattle.clk_router.specs.declared.limits.TheConstants.{END_OF_PACKETS}
use Rattle.clk_router.specs.Events.{Setup, Event, offered, pulled, IsOfSender, sender_numbers, numbers_of, events_at, accepted_in, happens_at}
use Rattle.clk_router.specs.inside.Parts.{HasSentFew, sender_after}

-- how many packets these senders have offered
abbrev offered_by : List ℕ → List Event → ℕ
offered_by [] events = 0
offered_by (n ∷ numbers) events = length (numbers_of n events) + offered_by numbers events

-- each event adds to it, or leaves it
grows : (numbers : List ℕ) (e : Event) (events : List Event) → offered_by numbers events ≤ offered_by numbers (e ∷ events)
grows [] e events = omega arith
grows (n ∷ numbers) (pulled d m visits) events = let rest = grows numbers (pulled d m visits) events in omega (arith, rest)
grows (n ∷ numbers) (offered p outcome) events = let rest = grows numbers (offered p outcome) events in by_test (p.sender == n) refl rest
  where
    by_test : (b : Bool) → (p.sender == n) ≡ b → offered_by numbers events ≤ offered_by numbers (offered p outcome ∷ events) → offered_by (n ∷ numbers) events ≤ offered_by (n ∷ numbers) (offered p outcome ∷ events)
    by_test true e rest = rw e (omega (arith, rest))
    by_test false e rest = rw e (omega (arith, rest))

-- an offer of one of them adds one or more
adds : (numbers : List ℕ) (p : Packet) (outcome : Offered) (events : List Event) → list_any (λ n. n == p.sender) numbers ≡ true → offered_by numbers events + 1 ≤ offered_by numbers (offered p outcome ∷ events)
adds [] p outcome events there = absurd (false≢true there)
adds (n ∷ numbers) p outcome events there = by_test (n == p.sender) refl there (λ h. adds numbers p outcome events h)
  where
    by_test : (b : Bool) → (n == p.sender) ≡ b → (b || list_any (λ m. m == p.sender) numbers) ≡ true → (list_any (λ m. m == p.sender) numbers ≡ true → offered_by numbers events + 1 ≤ offered_by numbers (offered p outcome ∷ events))
        → offered_by (n ∷ numbers) events + 1 ≤ offered_by (n ∷ numbers) (offered p outcome ∷ events)
    by_test true e h later =
        let same : (p.sender == n) ≡ true = grind (arith, nat_tests) in
        let rest = grows numbers (offered p outcome) events in
        rw same (omega (arith, rest))
    by_test false e h later =
        let other : (p.sender == n) ≡ false = grind (arith, nat_tests) in
        let rest = later h in
        rw other (omega (arith, rest))

-- an event is counted once at most
counted : (e : Event) (more : List Event) (b : Bool) → length (filter_map accepted_in (if b then e ∷ more else more)) ≤ length (filter_map accepted_in (e ∷ [])) + length (filter_map accepted_in more)
counted e more false = omega arith
counted (pulled d m visits) more true = omega arith
counted (offered p Accepted) more true = omega arith
counted (offered p (Refused q)) more true = omega arith
counted (offered p (Evicted q)) more true = omega arith

-- an offer counts for one packet at most, and a pull for none
one : (p : Packet) (outcome : Offered) → length (filter_map accepted_in (offered p outcome ∷ [])) ≤ 1
one p Accepted = omega arith
one p (Refused q) = omega arith
one p (Evicted q) = omega arith

-- what a device accepted was offered
accepted-few : (setup : Setup) (d : ℕ) (events : List Event) → AllByRecursion (IsOfSender setup) events → length (filter_map accepted_in (events_at setup d events)) ≤ offered_by (sender_numbers setup) events
accepted-few setup d [] all = omega arith
accepted-few setup d (pulled x m visits ∷ events) all =
    let rest = accepted-few setup d events all.1 in
    let more = grows (sender_numbers setup) (pulled x m visits) events in
    let here = counted (pulled x m visits) (events_at setup d events) (happens_at setup d (pulled x m visits)) in
    omega (arith, rest, more, here)
accepted-few setup d (offered p outcome ∷ events) all =
    let rest = accepted-few setup d events all.1 in
    let more = adds (sender_numbers setup) p outcome events all.0 in
    let here = counted (offered p outcome) (events_at setup d events) (happens_at setup d (offered p outcome)) in
    let least = one p outcome in
    omega (arith, rest, more, here, least)

-- each sender has offered fewer packets than 2^32
offered-few : (specs : List SenderSpec) (events : List Event) → AllByRecursion HasSentFew (map (sender_after events) specs) → offered_by (map number_of specs) events ≤ length specs * 2 ^ 32
offered-few [] events few = omega arith
offered-few (s ∷ specs) events few = let rest = offered-few specs events few.1 in let first = few.0 in omega (arith, rest, first)

-- So a device has accepted fewer packets than it takes.
pub never-full : (setup : Setup) (events : List Event) (d : ℕ) → AllByRecursion (IsOfSender setup) events → AllByRecursion HasSentFew (map (sender_after events) setup.senders) → length setup.senders ≤ 2 ^ 16
    → length (filter_map accepted_in (events_at setup d events)) < END_OF_PACKETS
never-full setup events d all few senders =
    let accepted = accepted-few setup d events all in
    let sent = offered-few setup.senders events few in
    omega (arith, accepted, sent, senders)
