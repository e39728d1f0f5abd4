-- What a run through inlets returns, and why it fails (this project's own definition).
use Rattle.std.specs.Prelude.{◌≡◌, ℕ, ◌+◌, ◌*◌, ◌<◌, ◌≤◌, Bool, true, List, ◌++◌, length, map, ⊤, Some, None}
use Rattle.std.specs.List.{filter_map, range_with_len, AllByRecursion}
use Rattle.clk_packet.specs.declared.packet.Packet.{Packet}
use Rattle.clk_packet.specs.declared.fault.Fault.{Fault}
use Rattle.clk_packet.specs.declared.fault.Fault.TheVariants.{Memory, TooLarge, UnknownSender}
use Rattle.clk_packet.specs.Trace.{sent_by}
use Rattle.clk_gate.specs.Sent.{sent_in}
use Rattle.clk_tree.specs.Plan.{Planned}
use Rattle.clk_tree.specs.PlanTree.{device_count}
use Rattle.clk_sched.specs.Tree.{Tree}
use Rattle.clk_tree.specs.Shares.{AreTreesOf}
use Rattle.clk_router.specs.Events.{Setup, Event, plan_setup, sender_numbers, events_at, moment_in, CanHappen}
use Rattle.clk_router.specs.Settled.{offered_of, IsCourseSettled, AreAllOut}
use Rattle.clk_router.specs.Course.{Course}
use Rattle.clk_live.specs.Outcome.{packet_length}
use Rattle.clk_gate.specs.Known.{senders_in, first_unknown}
use Rattle.clk_script.specs.Meaning.{IsClosed}
use Rattle.clk_script.specs.declared.limits.TheConstants.{MAX_LINES}

-- the moments of `count` pulls, `step` ticks apart, the first at moment `step`
abbrev pub paced : (step count : ℕ) → List ℕ
paced step count = map (λ n. n * step) (range_with_len 1 count)

-- the moments that were handed in for the pulls of a device, in order
abbrev pub moments_at : Setup → List Event → ℕ → List ℕ
moments_at setup events device = filter_map moment_in (events_at setup device events)

-- A sender offered packets of the lengths that it sends, in order.
abbrev pub OffersAll : List (List Packet) → List Event → ℕ → Type 0
OffersAll traces events s = map packet_length (offered_of events s) ≡ map packet_length (sent_by traces s)

-- A run of a setup over traces: what happened while its senders sent, `events`, and in the drain, `closed`.
pub record IsLiveRun (traces : List (List Packet)) (step limit : ℕ) (setup : Setup) (events closed : List Event) : Type 0 where
  -- all this can happen, and all packets are out of the router
  pub happened : CanHappen setup (events ++ closed)
  pub settled : IsCourseSettled setup (events ++ closed)
  pub all_out : AreAllOut setup (events ++ closed)
  -- each sender offered what it sends
  pub offered : AllByRecursion (OffersAll traces (events ++ closed)) (sender_numbers setup)
  -- while they sent, each device was pulled equally often, at the same moments
  pub pulls : ℕ
  pub few : pulls ≤ limit
  pub moments : (d : ℕ) → d < length setup.trees → moments_at setup events d ≡ paced step pulls
  -- then the devices were drained, one after the other
  pub closes : IsClosed setup (Some 0) events closed

-- A run of a plan: its events, and what is `Told` of them.
pub record LiveRunOf (plan : List Planned) (traces : List (List Packet)) (step limit : ℕ) (c : Course) (Told : Setup → List Event → List Event → Type 0) : Type 0 where
  pub trees : List Tree
  pub are : AreTreesOf plan trees
  pub setup : c.setup ≡ plan_setup trees plan
  pub events : List Event
  pub closed : List Event
  pub all : c.events ≡ events ++ closed
  pub run : IsLiveRun traces step limit c.setup events closed
  pub told : Told c.setup events closed

-- The record of a run may take more lines than a script may have. It takes one for each packet that is sent, one for each pull that may be
-- made while senders send, and one for the drain.
abbrev pub MayBeTooLong : List Planned → List (List Packet) → ℕ → Type 0
MayBeTooLong plan traces limit = MAX_LINES < sent_in traces (senders_in plan) + device_count plan * limit + 1

-- Why a run fails: an allocation or the start of a thread failed, the plan lacks a sender of the trace, or its record may be too long.
-- Fault 15 names the least sender that the plan lacks, and comes before fault 18. Only a run that is to be recorded has a record.
abbrev pub IsFaultOfLive : List Planned → List (List Packet) → ℕ → Bool → Fault → Type 0
IsFaultOfLive plan traces limit recording Memory = ⊤
IsFaultOfLive plan traces limit recording (UnknownSender s) = first_unknown (senders_in plan) traces ≡ Some s
IsFaultOfLive plan traces limit recording TooLarge = (recording ≡ true) × MayBeTooLong plan traces limit × (first_unknown (senders_in plan) traces ≡ None)
IsFaultOfLive plan traces limit recording fault = ⊥
