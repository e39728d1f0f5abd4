-- A settled device holds no packet back, and no device of a plan does after a run.
use Rattle.std.proofs.Common.{◌≡◌, ℕ, suc, ◌+◌, ◌<◌, ◌==◌, ⊎_elim, Bool, true, false, true≢false, List, [], ◌∷◌, ◌++◌, length, map, filter, Some, slice_get, refl, sym, ap, ◌∙◌, subst, arith, if◌then◌else◌, rules}
use Rattle.std.proofs.lemmas.List.{nil_from_length}
use Rattle.std.specs.List.{flat_map, AllByRecursion}
use Rattle.clk_packet.specs.declared.packet.Packet.{Packet}
use Rattle.clk_packet.specs.declared.tally.Tally.{Tally}
use Rattle.clk_packet.specs.Lists.{stands_in, are_distinct, AreRising}
use Rattle.clk_packet.specs.Trace.{sent_by}
use Rattle.clk_packet.proofs.Callers.Lists.{stands-left, stands-right, stands-either, rising-distinct}
use Rattle.clk_sched.specs.Conservation.{given_in_all, ConservesCounts}
use Rattle.clk_sched.specs.Results.{heads, leaf_packets}
use Rattle.clk_sched.specs.Tree.{Tree, root, leaves, leaves_distinct}
use Rattle.clk_tree.specs.Plan.{Planned}
use Rattle.clk_tree.specs.PlanTree.{device_count}
use Rattle.clk_tree.specs.PlanParts.{Queued, queues_of, SharedQueue}
use Rattle.clk_tree.specs.Shares.{AreTreesOf, AreSharedOut}
use Rattle.clk_drain.specs.Laws.{HoldNothing, SettledHoldNothing, RunsHoldNothing}
use Rattle.clk_drain.specs.Outcome.{Device, senders_to, IsQueueSettled, IsDeviceSettled}
use Rattle.clk_drain.proofs.Plans.Numbered.{AreDevicesFrom, devices-of}
use Rattle.clk_drain.proofs.Drains.AllGiven.{sum-same, given-sum}
use Rattle.clk_drain.proofs.Plans.Apart.{not-both, apart-parts}
use Rattle.clk_drain.proofs.Plans.PlanSenders.{apart-filtered}
use Rattle.clk_drain.proofs.Plans.QueuesAt.{rise-at, stands-at, senders-at}
use Rattle.clk_drain.proofs.Runs.Leads.{trees_of, tree-apart, HasTrees, leads-so, has-trees, its-queues}

-- the packets of some senders
abbrev of_senders : List ℕ → List Packet → List Packet
of_senders senders packets = filter (λ (p : Packet). stands_in p.sender senders) packets

-- As many packets are of either of two lists that have no sender in common as of both together.
count-joined : (a b : List ℕ) (packets : List Packet) → are_distinct (a ++ b) ≡ true → length (of_senders a packets) + length (of_senders b packets) ≡ length (of_senders (a ++ b) packets)
count-joined a b [] apart = refl
count-joined a b (p ∷ packets) apart = by_tests (stands_in p.sender a) (stands_in p.sender b) (stands_in p.sender (a ++ b)) refl refl refl (count-joined a b packets apart)
  where
    with_first : Bool → List Packet → List Packet
    with_first test rest = if test then p ∷ rest else rest

    by_tests : (x y z : Bool) → stands_in p.sender a ≡ x → stands_in p.sender b ≡ y → stands_in p.sender (a ++ b) ≡ z → length (of_senders a packets) + length (of_senders b packets) ≡ length (of_senders (a ++ b) packets)
        → length (with_first x (of_senders a packets)) + length (with_first y (of_senders b packets)) ≡ length (with_first z (of_senders (a ++ b) packets))
    by_tests true true z has other both rest = absurd (not-both a b p.sender apart has other)
    by_tests true false true has other both rest = omega (arith, rest)
    by_tests true false false has other both rest = absurd (true≢false (sym (stands-left p.sender a b has) ∙ both))
    by_tests false true true has other both rest = omega (arith, rest)
    by_tests false true false has other both rest = absurd (true≢false (sym (stands-right p.sender a b other) ∙ both))
    by_tests false false false has other both rest = rest
    by_tests false false true has other both rest = absurd (⊎_elim (λ h. true≢false (sym h ∙ has)) (λ h. true≢false (sym h ∙ other)) (stands-either p.sender a b both))

-- As many packets were given by settled queues as were emitted of their senders.
count-given : (sent : ℕ → List Packet) (tallies : List Tally) (d : Device) (queues : List SharedQueue) → AllByRecursion (IsQueueSettled sent tallies d) queues → are_distinct (flat_map (λ (q : SharedQueue). q.senders) queues) ≡ true
    → given_in_all d.tree (map (λ (q : SharedQueue). q.leaf) queues) d.log ≡ length (of_senders (flat_map (λ (q : SharedQueue). q.senders) queues) d.emitted)
count-given sent tallies d [] h apart = none d.emitted
  where
    none : (packets : List Packet) → 0 ≡ length (of_senders [] packets)
    none [] = refl
    none (p ∷ packets) = none packets
count-given sent tallies d (q ∷ queues) h apart =
    let first = ap length h.0.given in
    let rest = count-given sent tallies d queues h.1 (apart-parts q.senders (flat_map (λ (q : SharedQueue). q.senders) queues) apart).1 in
    let both = count-joined q.senders (flat_map (λ (q : SharedQueue). q.senders) queues) d.emitted apart in omega (arith, first, rest, both)

all-of : (senders : List ℕ) (packets : List Packet) → AllByRecursion (λ (p : Packet). stands_in p.sender senders ≡ true) packets → of_senders senders packets ≡ packets
all-of senders [] h = refl
all-of senders (p ∷ packets) h = search (rules, (all-of senders packets h.1))

-- A settled device holds no packet back.
pub settled-none : ((tree : Tree) → leaves_distinct tree ≡ true → ConservesCounts tree) → SettledHoldNothing
settled-none counts sent tallies d rise distinct at apart settled =
    let given = count-given sent tallies d d.queues settled.queues apart in
    let all = ap length (all-of (senders_to d) d.emitted settled.own) in
    let out = ap length settled.emitted in
    let conserved = counts d.tree distinct d.log settled.run in
    let same : given_in_all d.tree (map (λ (q : SharedQueue). q.leaf) d.queues) d.log ≡ given_in_all d.tree (leaves (root d.tree)) d.log =
    given-sum d.tree d.log (map (λ (q : SharedQueue). q.leaf) d.queues)
    ∙ sum-same (λ q. length (leaf_packets d.tree q d.log)) (map (λ (q : SharedQueue). q.leaf) d.queues) (leaves (root d.tree)) (rising-distinct (map (λ (q : SharedQueue). q.leaf) d.queues) rise) distinct at
    ∙ sym (given-sum d.tree d.log (leaves (root d.tree))) in
    nil_from_length (heads d.tree d.log) (omega (arith, given, all, out, conserved, same))

-- So each device holds nothing.
each-none : (plan : List Planned) (trees : List Tree) (sent : ℕ → List Packet) (tallies : List Tally) → ((tree : Tree) → leaves_distinct tree ≡ true → ConservesCounts tree) → HasTrees plan trees
    → (first : ℕ) (devices : List Device) → AreDevicesFrom plan first devices → ((n : ℕ) → slice_get trees (first + n) ≡ slice_get (trees_of devices) n) → AllByRecursion (IsDeviceSettled sent tallies) devices → HoldNothing devices
each-none plan trees sent tallies counts h first [] from at settled = tt
each-none plan trees sent tallies counts h first (d ∷ devices) from at settled =
    let here : slice_get trees first ≡ Some d.tree = subst (λ n. slice_get trees n ≡ Some d.tree) (omega arith) (at 0) in
    let queues = its-queues plan trees first d h here from.0 in (
      settled-none counts sent tallies d
          (subst (λ (qs : List SharedQueue). AreRising (map (λ (q : SharedQueue). q.leaf) qs)) (sym queues) (rise-at first 0 (queues_of plan)))
          (tree-apart trees first d.tree h.shared.once here)
          (λ q. ap (λ (qs : List SharedQueue). stands_in q (map (λ (k : SharedQueue). k.leaf) qs)) queues ∙ stands-at first q (queues_of plan) ∙ leads-so plan trees first d.tree q h here)
          (subst (λ (qs : List SharedQueue). are_distinct (flat_map (λ (k : SharedQueue). k.senders) qs) ≡ true) (sym queues)
          (subst (λ senders. are_distinct senders ≡ true) (sym (senders-at first 0 (queues_of plan))) (apart-filtered (λ (k : Queued). k.senders) (λ (k : Queued). k.device == first) (queues_of plan) h.apart)))
          settled.0,
      each-none plan trees sent tallies counts h (suc first) devices from.1 (λ n. subst (λ m. slice_get trees m ≡ slice_get (trees_of devices) n) (omega arith) (at (suc n))) settled.1,
    )

-- After a run of a plan no tree of its devices holds a packet back.
pub runs-none : (plan : List Planned) → ((tree : Tree) → leaves_distinct tree ≡ true → ConservesCounts tree) → ((trees : List Tree) → AreTreesOf plan trees → AreSharedOut (queues_of plan) trees)
    → AllByRecursion (λ (k : Queued). k.device < device_count plan) (queues_of plan) → are_distinct (flat_map (λ (k : Queued). k.senders) (queues_of plan)) ≡ true → RunsHoldNothing plan
runs-none plan counts shared within apart traces step limit logs packets tallies run =
    let each = devices-of plan run.devices run.each in
    each-none plan (trees_of run.devices) (sent_by traces) tallies counts (has-trees plan shared within apart run.devices each) 0 run.devices each (λ n. ap (slice_get (trees_of run.devices)) (omega arith))
    run.settled.settled
