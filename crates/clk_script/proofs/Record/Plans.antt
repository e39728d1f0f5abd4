-- Over a plan events that can happen, and are within the limits of a script, fit it.
use Rattle.std.proofs.Common.{◌≡◌, ℕ, ◌≤◌, ◌==◌, true, List, [], ◌∷◌, ◌++◌, length, map, arith, rules}
use Rattle.std.specs.List.{AllByRecursion, list_any}
use Rattle.clk_packet.specs.declared.limits.TheConstants.{MAX_SENDER, MAX_ELEMENTS}
use Rattle.clk_sched.specs.Tree.{Tree}
use Rattle.clk_tree.specs.Plan.{Planned}
use Rattle.clk_tree.specs.declared.plan.parts.SenderSpec.{SenderSpec}
use Rattle.clk_tree.specs.PlanParts.{HasNumber, number_of, senders_of}
use Rattle.clk_tree.specs.PlanTree.{device_count}
use Rattle.clk_tree.specs.Shares.{AreTreesOf}
use Rattle.clk_router.specs.Events.{Setup, Event, offered, pulled, IsOfDevice, IsOfSender, plan_setup}
use Rattle.clk_script.specs.Record.{FitsNames, RecordsMeanTheirCourse, PlanRecordsMeanTheirCourse}

-- a number among those of senders within the limits is within the limits
among : (n : ℕ) (senders : List SenderSpec) → AllByRecursion HasNumber senders → list_any (λ m. m == n) (map number_of senders) ≡ true → n ≤ MAX_SENDER
among n [] each there = absurd (cc)
among n (s ∷ more) each there = search (rules, (among n more each.1))

names-fit : (setup : Setup) (events closed : List Event) → AllByRecursion HasNumber setup.senders → length setup.trees ≤ MAX_ELEMENTS → AllByRecursion (IsOfSender setup) (events ++ closed)
    → AllByRecursion (IsOfDevice (length setup.trees)) (events ++ closed) → AllByRecursion (FitsNames setup) events
names-fit setup [] closed each few known there = tt
names-fit setup (offered p outcome ∷ more) closed each few known there = ((known.0, among p.sender setup.senders each known.0), names-fit setup more closed each few known.1 there.1)
names-fit setup (pulled device moment visits ∷ more) closed each few known there = (let is = there.0 in omega (arith, few, is), names-fit setup more closed each few known.1 there.1)

pub plan-records-mean : (plan : List Planned) (trees : List Tree) → AreTreesOf plan trees → AllByRecursion HasNumber (senders_of plan) → device_count plan ≤ MAX_ELEMENTS
    → RecordsMeanTheirCourse (plan_setup trees plan) → PlanRecordsMeanTheirCourse plan trees
plan-records-mean plan trees are each few mean events closed drain can closes limits = record {
  trees = trees;
  are = are;
  means =
      mean events closed drain can closes
      (record { names = names-fit (plan_setup trees plan) events closed each (let count = are.count in omega (arith, few, count)) can.senders can.devices; limits = limits });
}
