-- What is proved of every pull over lines, and of every run that fails.
use Rattle.std.specs.Prelude.{◌≡◌, ℕ, true, List, [], map}
use Rattle.std.specs.List.{flat_map, range_with_len, AllByRecursion}
use Rattle.atomic_table.specs.Seated.{TableId}
use Rattle.clk_packet.specs.declared.packet.Packet.{Packet}
use Rattle.clk_packet.specs.declared.fault.Fault.{Fault}
use Rattle.clk_packet.specs.declared.fault.Fault.TheVariants.{Unsettled}
use Rattle.clk_packet.specs.declared.tally.Tally.{Tally}
use Rattle.clk_packet.specs.Dealt.{AccountFor}
use Rattle.clk_packet.specs.Lists.{stands_in, are_distinct, AreRising}
use Rattle.clk_packet.specs.Trace.{sent_by}
use Rattle.clk_sched.specs.declared.visit.Visit.{Visit}
use Rattle.clk_sched.specs.Tree.{Tree, root, leaves, leaves_distinct}
use Rattle.clk_sched.specs.Answers.{Answers, tree_queue}
use Rattle.clk_sched.specs.Results.{heads, leaf_packets}
use Rattle.clk_tree.specs.Plan.{Planned}
use Rattle.clk_tree.specs.PlanTree.{device_count}
use Rattle.clk_tree.specs.PlanParts.{queues_of, SharedQueue}
use Rattle.clk_drain.specs.Closing.{HasSent}
use Rattle.clk_drain.specs.Line.{LineLists, pulling_all, PullsAt, senders_at}
use Rattle.clk_drain.specs.Lost.{SeatedQueue, NamesFirstLost}
use Rattle.clk_drain.specs.Outcome.{Device, senders_to, IsDeviceSettled}
use Rattle.clk_drain.specs.Run.{IsRunWith, IsFaultOfRun}
use Rattle.clk_drain.specs.Opening.{queues_at}

-- The tap of each line takes, in order, exactly what its leaf gave in the visits that asked the lines.
abbrev pub TapsTakeWhatLeavesGive : Type 0
TapsTakeWhatLeavesGive =
    (tree : Tree) (visits : List Visit) (old new : List LineLists) → Answers PullsAt (tree_queue tree) old visits new → new ≡ pulling_all (λ q. leaf_packets tree q visits) old

-- the queues of a plan, by device and then by leaf
abbrev pub queues_in_order : List Planned → List SharedQueue
queues_in_order plan = flat_map (λ device. queues_at device 0 (queues_of plan)) (range_with_len 0 (device_count plan))

-- Each sender of a queue has a seat there, in order, and offered all that it sends.
pub record HasOffered (traces : List (List Packet)) (s : SeatedQueue) : Type 0 where
  pub senders : senders_at s.seats ≡ s.queue.senders
  pub sent : AllByRecursion (HasSent (sent_by traces)) s.seats

-- Each sender offered all that it sends, and fault 21 names the first queue, by device and then by number, that lost packets below its
-- capacity. A run that fails returns no lists. So this says that there are lists of what the queues did that agree with the fault; others
-- may name another queue.
pub record IsUnsettledRun (plan : List Planned) (traces : List (List Packet)) (fault : Fault) : Type 0 where
  pub queues : List SeatedQueue
  pub are : map (λ (s : SeatedQueue). s.queue) queues ≡ queues_in_order plan
  pub offered : AllByRecursion (HasOffered traces) queues
  pub names : NamesFirstLost queues fault

-- Whatever counts fault 21 has, there are lists of what the queues did that agree with them. (A seat is identified by the queue that it
-- belongs to.)
abbrev pub LossesHaveLists : List Planned → List (List Packet) → Type 0
LossesHaveLists plan traces =
    (leaf accepted capacity : ℕ) → IsFaultOfRun plan traces (Unsettled leaf accepted capacity) → TableId → IsUnsettledRun plan traces (Unsettled leaf accepted capacity)

-- No tree of these devices holds a packet back.
abbrev pub HoldNothing : List Device → Type 0
HoldNothing devices = AllByRecursion (λ (d : Device). heads d.tree d.log ≡ []) devices

-- A settled device holds no packet back, if its queues stand at the leaves of its tree, each at one of its own, and no sender sends to two.
abbrev pub SettledHoldNothing : Type 0
SettledHoldNothing =
    (sent : ℕ → List Packet) (tallies : List Tally) (d : Device) → AreRising (map (λ (q : SharedQueue). q.leaf) d.queues) → leaves_distinct d.tree ≡ true
    → ((q : ℕ) → stands_in q (map (λ (q : SharedQueue). q.leaf) d.queues) ≡ stands_in q (leaves (root d.tree))) → are_distinct (senders_to d) ≡ true
    → IsDeviceSettled sent tallies d → heads d.tree d.log ≡ []

-- After a run of a plan no tree of its devices holds a packet back.
abbrev pub RunsHoldNothing : List Planned → Type 0
RunsHoldNothing plan =
    (traces : List (List Packet)) (step limit : ℕ) (logs : List (List Visit)) (packets : List (List Packet)) (tallies : List Tally)
    (run : IsRunWith plan traces step limit logs packets tallies) → HoldNothing run.devices

-- After a run of a plan the tallies account for what was emitted at all devices: each packet accepted was evicted or emitted, both in
-- order.
abbrev pub RunsAccountForEmitted : List Planned → Type 0
RunsAccountForEmitted plan =
    (traces : List (List Packet)) (step limit : ℕ) (logs : List (List Visit)) (packets : List (List Packet)) (tallies : List Tally) → IsRunWith plan traces step limit logs packets tallies
    → AccountFor (flat_map (λ (emitted : List Packet). emitted) packets) tallies
