-- A plan has no more queues than elements, and the senders of each queue have rising numbers.
use Rattle.std.proofs.Common.{ℕ, ◌+◌, ◌<◌, ◌≤◌, Bool, true, false, if◌then◌else◌, List, [], ◌∷◌, length, map, filter, arith, rules}
use Rattle.std.specs.List.{AllByRecursion}
use Rattle.clk_packet.specs.declared.limits.TheConstants.{MAX_ELEMENTS}
use Rattle.clk_tree.specs.declared.plan.parts.SenderSpec.{SenderSpec}
use Rattle.clk_tree.specs.Plan.{Planned, Denotes}
use Rattle.clk_tree.specs.PlanParts.{Queued, number_of, senders_of, queues_of}
use Rattle.clk_tree.specs.inside.FromPlace.{queues_from}
use Rattle.clk_packet.specs.Lists.{AreRising}
use Rattle.clk_tree.proofs.Distinct.DistinctPlans.{denoted-small}
use Rattle.clk_tree.proofs.Denoted.PartLemmas.{senders-rising}

queues-fewer : (plan : List Planned) (i : ℕ) (rest : List Planned) → length (queues_from plan i rest) ≤ length rest
queues-fewer plan i [] = omega arith
queues-fewer plan i (e ∷ more) = search (rules, (queues-fewer plan (i + 1) more))

pub queues-few : (text : List ℕ) (plan : List Planned) → Denotes text plan → length (queues_of plan) ≤ MAX_ELEMENTS
queues-few text plan d = let fewer = queues-fewer plan 0 plan in let small = denoted-small text plan d in omega (arith, fewer, small)

-- Some of the senders by rising number.
above-some : (n : ℕ) (test : SenderSpec → Bool) (senders : List SenderSpec) → AllByRecursion (λ m. n < m) (map number_of senders) → AllByRecursion (λ m. n < m) (map number_of (filter test senders))
above-some n test [] all = tt
above-some n test (s ∷ more) all = search (rules, (above-some n test more all.1))

rising-some : (test : SenderSpec → Bool) (senders : List SenderSpec) → AreRising (map number_of senders) → AreRising (map number_of (filter test senders))
rising-some test [] rising = tt
rising-some test (s ∷ more) rising = by_test (test s) (rising-some test more rising.1)
  where
    some : List SenderSpec
    some = filter test more

    by_test : (b : Bool) → AreRising (map number_of some) → AreRising (map number_of (if b then s ∷ some else some))
    by_test true later = (above-some s.number test more rising.0, later)
    by_test false later = later

queues-rising : (plan : List Planned) (i : ℕ) (rest : List Planned) → AreRising (map number_of (senders_of plan)) → AllByRecursion (λ (q : Queued). AreRising q.senders) (queues_from plan i rest)
queues-rising plan i [] rising = tt
queues-rising plan i (e ∷ more) rising = search (rules, rising-some, (queues-rising plan (i + 1) more rising))

pub queues-rise : (text : List ℕ) (plan : List Planned) → Denotes text plan → AllByRecursion (λ (q : Queued). AreRising q.senders) (queues_of plan)
queues-rise text plan d = queues-rising plan 0 plan (senders-rising text plan d)
