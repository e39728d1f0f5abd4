-- Runs of a worked plan with two devices, and lists that no run of it returns.
use Rattle.std.specs.Prelude.{◌≡◌, ℕ, List, [], ◌∷◌, map, Some, None, codes, Vec}
use Rattle.std.specs.declared.alloc.Global.{Global}
use Rattle.clk_packet.specs.declared.packet.Packet.{Packet}
use Rattle.clk_packet.specs.declared.packet.Kind.{Kind}
use Rattle.clk_packet.specs.declared.packet.Kind.TheVariants.{TailDrop, FrontDrop}
use Rattle.clk_packet.specs.declared.fault.Fault.{Fault}
use Rattle.clk_packet.specs.declared.tally.Tally.{Tally}
use Rattle.clk_sched.specs.declared.visit.Visit.{Visit}
use Rattle.clk_sched.specs.Log.{asking}
use Rattle.clk_sched.specs.Examples.Priority.{p0_0, p1_0}
use Rattle.clk_packet.specs.Scheduler.{prio}
use Rattle.clk_syntax.specs.Classes.{Class, sender, queue, scheduler, device}
use Rattle.clk_tree.specs.Plan.{Planned}
use Rattle.clk_drain.specs.declared.outcome.Outcome.{Outcome}
use Rattle.clk_drain.specs.Examples.{p0_1, tally}
use Rattle.clk_drain.specs.Run.{IsRunOutcome, IsFaultOfRun}

-- an element by its parts
abbrev planned : List ℕ → Class → List ℕ → Planned
planned name class sources = record { name = name; class = class; sources = sources }

-- Two senders, each with a queue and a device of its own. The first queue is of this kind and holds `capacity` packets, the second is a
-- Queue that holds two. The first device's input comes from the element at place `top`, and the elements `more` are the last.
abbrev plan_with : Kind → ℕ → ℕ → List Planned → List Planned
plan_with kind capacity top more =
    planned (codes "s") (sender 0) [] ∷ planned (codes "t") (sender 1) [] ∷
    planned (codes "p") (queue kind capacity) (0 ∷ []) ∷ planned (codes "q") (queue TailDrop 2) (1 ∷ []) ∷
    planned (codes "a") (device (codes "x")) (top ∷ []) ∷ planned (codes "b") (device (codes "x")) (3 ∷ []) ∷ more

-- the plan whose first Queue holds one packet
abbrev pub plan : List Planned
plan = plan_with TailDrop 1 2 []

-- the plan whose first Queue holds three packets
abbrev pub wider_plan : List Planned
wider_plan = plan_with TailDrop 3 2 []

-- the plan with a FrontDropQueue that holds three packets in place of the first Queue
abbrev pub evicting_plan : List Planned
evicting_plan = plan_with FrontDrop 3 2 []

-- the plan with a PrioSched between the first Queue and its device
abbrev pub scheduled_plan : List Planned
scheduled_plan = plan_with TailDrop 1 6 (planned (codes "o") (scheduler prio) (2 ∷ []) ∷ [])

-- the first sender sends two packets, and the second one
abbrev pub traces : List (List Packet)
traces = (p0_0 ∷ p0_1 ∷ []) ∷ (p1_0 ∷ []) ∷ []

-- what a run returns, in lists: the packets that each device emitted, the visits of each one's tree, and the tallies
pub record Lists : Type 0 where
  pub emitted : List (List Packet)
  pub logs : List (List Visit)
  pub tallies : List Tally

-- An outcome has these lists.
pub record HasLists (lists : Lists) (outcome : Outcome (Vec Visit Global)) : Type 0 where
  pub emitted : map (λ packets. packets.items) outcome.emitted.items ≡ lists.emitted
  pub logs : map (λ log. log.items) outcome.logs.items ≡ lists.logs
  pub tallies : outcome.tallies.items ≡ lists.tallies

-- A run of a plan over the trace, with a pull each three ticks and at most two pulls, may return these lists.
abbrev pub MayComeTo : List Planned → Lists → Type 0
MayComeTo plan lists = (outcome : Outcome (Vec Visit Global)) → HasLists lists outcome → IsRunOutcome plan traces 3 2 outcome

-- A run of a plan over the trace, with a pull each three ticks and at most two pulls, never returns these lists.
abbrev pub NeverComesTo : List Planned → Lists → Type 0
NeverComesTo plan lists = (outcome : Outcome (Vec Visit Global)) → HasLists lists outcome → ¬ (IsRunOutcome plan traces 3 2 outcome)

-- these lists, as a run returns them
abbrev came_to : List (List Packet) → List (List Visit) → List Tally → Lists
came_to emitted logs tallies = record { emitted = emitted; logs = logs; tallies = tallies }

-- The first device was pulled twice while producers ran. The second pull gave a packet, and nothing was left to drain.
abbrev pub log_a : List Visit
log_a = asking 0 3 0 0 None ∷ asking 1 6 0 0 (Some p0_0) ∷ []

-- The second device was pulled once while producers ran, and its packet was emitted in the drain.
abbrev pub log_b : List Visit
log_b = asking 0 3 0 0 None ∷ asking 1 4 0 0 (Some p1_0) ∷ []

-- no pull was made while producers ran, and two were made in the drain
abbrev pub only_closing : List Visit
only_closing = asking 0 1 0 0 (Some p0_0) ∷ asking 1 2 0 0 (Some p0_1) ∷ []

-- a third pull was made while producers ran
abbrev pub pull_too_many : List Visit
pull_too_many = asking 0 3 0 0 None ∷ asking 1 6 0 0 (Some p0_0) ∷ asking 2 9 0 0 None ∷ []

-- the second pull was made a step late
abbrev pub step_skipped : List Visit
step_skipped = asking 0 3 0 0 None ∷ asking 1 9 0 0 (Some p0_0) ∷ []

-- the drain began two ticks after the last pull
abbrev pub closing_late : List Visit
closing_late = asking 0 3 0 0 None ∷ asking 1 5 0 0 (Some p1_0) ∷ []

-- two pulls of the drain, each of which gave a packet, were two ticks apart
abbrev pub closing_pauses : List Visit
closing_pauses = asking 0 3 0 0 None ∷ asking 1 4 0 0 (Some p1_0) ∷ asking 2 6 0 0 (Some p0_0) ∷ []

-- the drain made a pull after its last packet was emitted
abbrev pub closing_goes_on : List Visit
closing_goes_on = asking 0 3 0 0 None ∷ asking 1 4 0 0 (Some p1_0) ∷ asking 2 5 0 0 None ∷ []

-- the drain made two pulls for one packet of a queue at the device
abbrev pub closing_waits : List Visit
closing_waits = asking 0 3 0 0 None ∷ asking 1 4 0 0 None ∷ asking 2 5 0 0 (Some p1_0) ∷ []

-- the first sender's first packet was accepted, and its second refused
abbrev tally_0 : Tally
tally_0 = tally 0 (p0_0 ∷ []) (p0_1 ∷ []) []

-- the second sender's packet was accepted
abbrev tally_1 : Tally
tally_1 = tally 1 (p1_0 ∷ []) [] []

-- The first Queue accepted the first packet of its sender and refused the second, and the second Queue accepted its one packet.
abbrev pub run_lists : Lists
run_lists = came_to ((p0_0 ∷ []) ∷ (p1_0 ∷ []) ∷ []) (log_a ∷ log_b ∷ []) (tally_0 ∷ tally_1 ∷ [])

-- the second device is left out, with the tally of its sender
abbrev pub device_missing : Lists
device_missing = came_to ((p0_0 ∷ []) ∷ []) (log_a ∷ []) (tally_0 ∷ [])

-- there is a third device, which was never pulled
abbrev pub device_too_many : Lists
device_too_many = came_to ((p0_0 ∷ []) ∷ (p1_0 ∷ []) ∷ [] ∷ []) (log_a ∷ log_b ∷ [] ∷ []) (tally_0 ∷ tally_1 ∷ [])

-- the second device has no log
abbrev pub log_missing : Lists
log_missing = came_to ((p0_0 ∷ []) ∷ (p1_0 ∷ []) ∷ []) (log_a ∷ []) (tally_0 ∷ tally_1 ∷ [])

-- the second device has no list of emitted packets
abbrev pub emitted_missing : Lists
emitted_missing = came_to ((p0_0 ∷ []) ∷ []) (log_a ∷ log_b ∷ []) (tally_0 ∷ tally_1 ∷ [])

-- each device has the other's log
abbrev pub logs_swapped : Lists
logs_swapped = came_to ((p0_0 ∷ []) ∷ (p1_0 ∷ []) ∷ []) (log_b ∷ log_a ∷ []) (tally_0 ∷ tally_1 ∷ [])

-- each device has the other's log and the other's list of emitted packets
abbrev pub devices_swapped : Lists
devices_swapped = came_to ((p1_0 ∷ []) ∷ (p0_0 ∷ []) ∷ []) (log_b ∷ log_a ∷ []) (tally_0 ∷ tally_1 ∷ [])

-- the packet of the second device is in the first one's list
abbrev pub in_other_list : Lists
in_other_list = came_to ((p0_0 ∷ p1_0 ∷ []) ∷ [] ∷ []) (log_a ∷ log_b ∷ []) (tally_0 ∷ tally_1 ∷ [])

-- the second sender has no tally
abbrev pub tally_left_out : Lists
tally_left_out = came_to ((p0_0 ∷ []) ∷ (p1_0 ∷ []) ∷ []) (log_a ∷ log_b ∷ []) (tally_0 ∷ [])

-- the first device was pulled once too often
abbrev pub with_pull_too_many : Lists
with_pull_too_many = came_to ((p0_0 ∷ []) ∷ (p1_0 ∷ []) ∷ []) (pull_too_many ∷ log_b ∷ []) (tally_0 ∷ tally_1 ∷ [])

-- the drain of the second device began late
abbrev pub with_closing_late : Lists
with_closing_late = came_to ((p0_0 ∷ []) ∷ (p1_0 ∷ []) ∷ []) (log_a ∷ closing_late ∷ []) (tally_0 ∷ tally_1 ∷ [])

-- the second device was pulled once more in its drain, after its last packet
abbrev pub with_closing_goes_on : Lists
with_closing_goes_on = came_to ((p0_0 ∷ []) ∷ (p1_0 ∷ []) ∷ []) (log_a ∷ closing_goes_on ∷ []) (tally_0 ∷ tally_1 ∷ [])

-- A run of a plan over the trace may fail with this fault.
abbrev pub MayFailWith : List Planned → Fault → Type 0
MayFailWith plan fault = IsFaultOfRun plan traces fault

-- A run of a plan over the trace never fails with this fault.
abbrev pub NeverFailsWith : List Planned → Fault → Type 0
NeverFailsWith plan fault = ¬ (IsFaultOfRun plan traces fault)
