-- What a run of producers on threads returns (this project's own definition).
use Rattle.std.specs.Prelude.{◌≡◌, ℕ, ◌<◌, true, List, length, map, filter, sum_by, Some, None, ⊤, MatchOption, slice_get, Vec}
use Rattle.std.specs.List.{AllByRecursion, AllZip, range_with_len}
use Rattle.std.specs.declared.alloc.Global.{Global}
use Rattle.clk_packet.specs.declared.packet.Packet.{Packet}
use Rattle.clk_packet.specs.declared.packet.Kind.TheVariants.{TailDrop, FrontDrop}
use Rattle.clk_packet.specs.declared.tally.Tally.{Tally}
use Rattle.clk_packet.specs.declared.fault.Fault.{Fault}
use Rattle.clk_packet.specs.declared.fault.Fault.TheVariants.{Memory, UnknownSender, Unsettled}
use Rattle.clk_packet.specs.Lists.{stands_in}
use Rattle.clk_packet.specs.Trace.{sent_by}
use Rattle.clk_sched.specs.declared.session.keeps.Keeps.{Keeps}
use Rattle.clk_sched.specs.declared.visit.Visit.{Visit}
use Rattle.clk_sched.specs.Keeps.{keeps_emitted, keeps_visits}
use Rattle.clk_sched.specs.Packed.{logged}
use Rattle.clk_sched.specs.Tree.{root, leaves}
use Rattle.clk_tree.specs.Plan.{Planned}
use Rattle.clk_tree.specs.PlanTree.{IsTreeOf, device_count}
use Rattle.clk_tree.specs.PlanParts.{SharedQueue, shared_queues}
use Rattle.clk_gate.specs.Known.{senders_in, first_unknown}
use Rattle.clk_drain.specs.declared.outcome.Outcome.{Outcome}
use Rattle.clk_sched.specs.declared.session.packed.PackedLog.{PackedLog}
use Rattle.clk_drain.specs.Moments.{HasMoments}
use Rattle.clk_drain.specs.Outcome.{Device, IsSettledOutcome}

-- This device has the tree of the plan's device of this number, and the queues that are leaves of the tree.
pub record IsDeviceOf (plan : List Planned) (number : ℕ) (d : Device) : Type 0 where
  pub tree : IsTreeOf plan number d.tree
  pub queues : d.queues ≡ filter (λ (q : SharedQueue). stands_in q.leaf (leaves (root d.tree))) (shared_queues plan)

-- A run of a plan over a trace has this outcome: the logs of the plan's devices, in order, the packets that each device emitted, and one
-- tally a sender. All packets that each sender sends are settled.
pub record IsRunWith (plan : List Planned) (traces : List (List Packet)) (step limit : ℕ) (logs : List (List Visit)) (packets : List (List Packet)) (tallies : List Tally) : Type 0 where
  pub devices : List Device
  pub each : AllZip (IsDeviceOf plan) (range_with_len 0 (device_count plan)) devices
  pub logs_are : logs ≡ map (λ (d : Device). d.log) devices
  pub emitted : packets ≡ map (λ (d : Device). d.emitted) devices
  pub settled : IsSettledOutcome (sent_by traces) devices tallies
  pub moments : AllByRecursion (λ (d : Device). HasMoments step limit d.tree d.log) devices

-- What `run` returns meets `IsRunWith`: its logs, its emitted packets and its tallies.
abbrev pub IsRunOutcome : List Planned → List (List Packet) → ℕ → ℕ → Outcome (Vec Visit Global) → Type 0
IsRunOutcome plan traces step limit outcome =
    IsRunWith plan traces step limit (map (λ log. log.items) outcome.logs.items) (map (λ packets. packets.items) outcome.emitted.items) outcome.tallies.items

-- What `run_with` returns meets `IsRunWith`. Its logs and emitted packets are those of the outcome if they are kept; otherwise only
-- contracts know them.
pub record IsKeptRun (keeps : Keeps) (plan : List Planned) (traces : List (List Packet)) (step limit : ℕ) (outcome : Outcome PackedLog) : Type 0 where
  pub logs : List (List Visit)
  pub packets : List (List Packet)
  pub kept : keeps_visits keeps ≡ true → map logged outcome.logs.items ≡ logs
  pub told : keeps_emitted keeps ≡ true → map (λ packets. packets.items) outcome.emitted.items ≡ packets
  pub is : IsRunWith plan traces step limit logs packets outcome.tallies.items

-- By these counts a queue lost packets although it accepted fewer than it may hold: a Queue refused at least one packet, or a FrontDropQueue
-- accepted all that were sent to it, at least one, so that it may have evicted some.
pub record HasLostEarly (q : SharedQueue) (sent accepted capacity : ℕ) : Type 0 where
  pub capacity_is : capacity ≡ q.capacity
  pub below : accepted < capacity
  pub refused : q.kind ≡ TailDrop → accepted < sent
  pub evicted : q.kind ≡ FrontDrop → (0 < accepted) × (accepted ≡ sent)

-- Why a run fails: an allocation or the start of a thread failed (fault 1), the plan lacks a sender of the trace (15), or a queue lost
-- packets below its capacity (21). Fault 21 has the queue's number, how many packets it accepted, and its capacity. A run has no other
-- fault, since a drain never stops short.
abbrev pub IsFaultOfRun : List Planned → List (List Packet) → Fault → Type 0
IsFaultOfRun plan traces Memory = ⊤
IsFaultOfRun plan traces (UnknownSender s) = first_unknown (senders_in plan) traces ≡ Some s
IsFaultOfRun plan traces (Unsettled leaf accepted capacity) =
    (first_unknown (senders_in plan) traces ≡ None)
    × MatchOption (slice_get (shared_queues plan) leaf) ⊥ (λ q. HasLostEarly q (sum_by (λ s. length (sent_by traces s)) q.senders) accepted capacity)
IsFaultOfRun plan traces fault = ⊥
