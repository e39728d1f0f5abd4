-- Devices that are settled one by one are settled together.
use Rattle.std.proofs.Common.{◌≡◌, ℕ, true, true≢false, List, [], ◌∷◌, map, filter_map, sum_by, Some, MatchOption, refl, sym, ap, subst, rules, arith}
use Rattle.std.proofs.lemmas.Grind.{common_steps}
use Rattle.std.proofs.lemmas.Bool.Decides.{nat_tests}
use Rattle.std.specs.List.{flat_map, AllByRecursion, cons_option}
use Rattle.std.proofs.lemmas.List.{append-nil, map-append}
use Rattle.clk_packet.specs.declared.packet.Packet.{Packet}
use Rattle.clk_packet.specs.declared.tally.Tally.{Tally}
use Rattle.clk_packet.specs.Lists.{stands_in, are_distinct}
use Rattle.clk_drain.specs.Outcome.{Device, senders_to, tally_for, in_all, IsQueueSettled, IsDeviceSettled, IsSettledOutcome}
use Rattle.clk_tree.specs.PlanParts.{SharedQueue}
use Rattle.clk_drain.specs.Closing.{AreInOrder}
use Rattle.clk_packet.proofs.Callers.Lists.{all-append, stands-left, stands-right, rising-distinct, all-both}
use Rattle.clk_drain.proofs.Plans.Apart.{not-both, apart-parts, apart-joined}
use Rattle.clk_drain.proofs.Drains.Tallies.{tellers, in-order-rise, in-order-found, in-order-all}
use Rattle.clk_sched.proofs.Callers.Lists.{all-split, all-weaker}

-- a device with its tallies
pub record Part : Type 0 where
  pub device : Device
  pub tallies : List Tally

abbrev pub devices_of : List Part → List Device
devices_of parts = map (λ (p : Part). p.device) parts

abbrev pub tallies_in_all : List Part → List Tally
tallies_in_all parts = flat_map (λ (p : Part). p.tallies) parts

-- each device is settled with its own tallies
abbrev pub AreSettled : (ℕ → List Packet) → List Part → Type 0
AreSettled sent parts = AllByRecursion (λ (p : Part). IsSettledOutcome sent (p.device ∷ []) p.tallies) parts

-- Some of the tallies that are found among all give each of their senders the tally that all give it.
abbrev AreFoundIn : List Tally → List Tally → Type 0
AreFoundIn all some = AllByRecursion (λ (t : Tally). tally_for all t.sender ≡ Some t) some

found-too : (all some : List Tally) (s : ℕ) (P : Tally → Type 0) → AreFoundIn all some → MatchOption (tally_for some s) ⊥ P → tally_for all s ≡ tally_for some s
found-too all [] s P found h = absurd h
found-too all (t ∷ some) s P found h = search (rules, (found-too all some s P found.1))

theirs-same : (all some : List Tally) (senders : List ℕ) → AllByRecursion (λ s. tally_for all s ≡ tally_for some s) senders → filter_map (tally_for all) senders ≡ filter_map (tally_for some) senders
theirs-same all some [] same = refl
theirs-same all some (s ∷ senders) same = λ i. cons_option (same.0 i) (theirs-same all some senders same.1 i)

in-all-same : (count : Tally → ℕ) (all some : List Tally) (senders : List ℕ) → AllByRecursion (λ s. tally_for all s ≡ tally_for some s) senders → in_all count all senders ≡ in_all count some senders
in-all-same count all some senders same = ap (sum_by count) (theirs-same all some senders same)

queue-together : (sent : ℕ → List Packet) (all some : List Tally) (d : Device) (q : SharedQueue) → AreFoundIn all some → IsQueueSettled sent some d q → IsQueueSettled sent all d q
queue-together sent all some d q found h = search (rules, found-too, all-both, in-all-same)

device-together : (sent : ℕ → List Packet) (all some : List Tally) (d : Device) → AreFoundIn all some → IsDeviceSettled sent some d → IsDeviceSettled sent all d
device-together sent all some d found h = search (rules, all-weaker, queue-together)

each-together : (sent : ℕ → List Packet) (all : List Tally) (parts : List Part) → AreSettled sent parts → AreFoundIn all (tallies_in_all parts) → AllByRecursion (IsDeviceSettled sent all) (devices_of parts)
each-together sent all [] h found = tt
each-together sent all (p ∷ parts) h found =
    let both = all-split (λ (t : Tally). tally_for all t.sender ≡ Some t) p.tallies (tallies_in_all parts) found in
    (device-together sent all p.tallies p.device both.0 h.0.settled.0, each-together sent all parts h.1 both.1)

-- Each tally is of a sender of its device.
abbrev AreOf : List ℕ → List Tally → Type 0
AreOf names tallies = AllByRecursion (λ (t : Tally). stands_in t.sender names ≡ true) tallies

part-known : (sent : ℕ → List Packet) (p : Part) → IsSettledOutcome sent (p.device ∷ []) p.tallies → AreOf (senders_to p.device) p.tallies
part-known sent p h = subst (λ names. AreOf names p.tallies) (append-nil (senders_to p.device)) h.known

all-known : (sent : ℕ → List Packet) (parts : List Part) → AreSettled sent parts → AreOf (flat_map senders_to (devices_of parts)) (tallies_in_all parts)
all-known sent [] h = tt
all-known sent (p ∷ parts) h = search (rules, all-append, all-weaker, stands-left, stands-right, (all-known sent parts h.1))

-- who has a tally is one of those that all the tallies are of
teller-known : (names : List ℕ) (tallies : List Tally) (s : ℕ) → AreOf names tallies → stands_in s (tellers tallies) ≡ true → stands_in s names ≡ true
teller-known names [] s known has = absurd (true≢false (sym has))
teller-known names (t ∷ tallies) s known has = search (rules, (teller-known names tallies s known.1))

-- No sender has two tallies, where none sends to two devices.
tellers-apart : (sent : ℕ → List Packet) (parts : List Part) → AreSettled sent parts → are_distinct (flat_map senders_to (devices_of parts)) ≡ true → are_distinct (tellers (tallies_in_all parts)) ≡ true
tellers-apart sent [] h apart = refl
tellers-apart sent (p ∷ parts) h apart = grind (arith, common_steps, nat_tests, map-append, apart-joined, (rising-distinct (tellers p.tallies) h.0.rise), apart-parts, not-both, teller-known, (part-known sent p h.0), (all-known sent parts h.1), (tellers-apart sent parts h.1))

-- Devices to which no sender sends twice, each settled with its own tallies, are settled together with all of these in order.
pub devices-settled : (sent : ℕ → List Packet) (parts : List Part) (tallies : List Tally) → AreSettled sent parts → are_distinct (flat_map senders_to (devices_of parts)) ≡ true → AreInOrder (tallies_in_all parts) tallies
    → IsSettledOutcome sent (devices_of parts) tallies
devices-settled sent parts tallies h apart order = search (rules, (tellers-apart sent parts h apart), in-order-rise, in-order-all, (all-known sent parts h), each-together, in-order-found)
