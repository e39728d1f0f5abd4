-- A settled outcome: which packets were accepted, refused, evicted and emitted, in lists alone (this project's own definition).
use Rattle.std.specs.Prelude.{◌≡◌, ℕ, ◌+◌, ◌<◌, ◌≤◌, ◌==◌, true, List, length, map, filter, find, filter_map, sum_by, Option, MatchOption}
use Rattle.std.specs.List.{flat_map, AllByRecursion}
use Rattle.clk_packet.specs.declared.packet.Packet.{Packet}
use Rattle.clk_packet.specs.declared.tally.Tally.{Tally}
use Rattle.clk_packet.specs.Lists.{of_sender, stands_in, AreRising}
use Rattle.clk_packet.specs.Dealt.{IsTallyOf}
use Rattle.clk_sched.specs.declared.visit.Visit.{Visit}
use Rattle.clk_sched.specs.Tree.{Tree}
use Rattle.clk_sched.specs.Run.{IsRun}
use Rattle.clk_sched.specs.Results.{emitted, leaf_packets}
use Rattle.clk_tree.specs.PlanParts.{SharedQueue}

-- a device: its tree and its queues, every visit of its tree, and what it emitted
pub record Device : Type 0 where
  pub tree : Tree
  pub queues : List SharedQueue
  pub log : List Visit
  pub emitted : List Packet

-- who sends to the queues of a device
abbrev pub senders_to : Device → List ℕ
senders_to d = flat_map (λ (q : SharedQueue). q.senders) d.queues

-- the tally of a sender, if there is one
abbrev pub tally_for : List Tally → ℕ → Option Tally
tally_for tallies s = find (λ (t : Tally). t.sender == s) tallies

-- how many packets the tallies of these senders have in all, by a count of each
abbrev pub in_all : (Tally → ℕ) → List Tally → List ℕ → ℕ
in_all count tallies senders = sum_by count (filter_map (tally_for tallies) senders)

-- A queue is settled: each of its senders has a tally that accounts for all packets that it sent, the queue gave what the device emitted of
-- them, in that order, and it lost packets only if it accepted at least as many as it may hold.
pub record IsQueueSettled (sent : ℕ → List Packet) (tallies : List Tally) (d : Device) (q : SharedQueue) : Type 0 where
  pub each : AllByRecursion (λ s. MatchOption (tally_for tallies s) ⊥ (λ t. IsTallyOf (sent t.sender) (of_sender t.sender d.emitted) q.kind t)) q.senders
  pub given : leaf_packets d.tree q.leaf d.log ≡ filter (λ (p : Packet). stands_in p.sender q.senders) d.emitted
  pub reached : 0 < in_all (λ t. length t.refused + length t.evicted) tallies q.senders → q.capacity ≤ in_all (λ t. length t.accepted) tallies q.senders

-- A device is settled: its log is a run of its tree, it emitted what the log says, and its queues are settled. It emitted only packets of
-- its own senders.
pub record IsDeviceSettled (sent : ℕ → List Packet) (tallies : List Tally) (d : Device) : Type 0 where
  pub run : IsRun d.tree d.log
  pub emitted : d.emitted ≡ emitted d.log
  pub queues : AllByRecursion (IsQueueSettled sent tallies d) d.queues
  pub own : AllByRecursion (λ (p : Packet). stands_in p.sender (senders_to d) ≡ true) d.emitted

-- All packets sent are settled: all devices are, and there is one tally a sender, by rising number, each of a sender to these devices.
pub record IsSettledOutcome (sent : ℕ → List Packet) (devices : List Device) (tallies : List Tally) : Type 0 where
  pub rise : AreRising (map (λ (t : Tally). t.sender) tallies)
  pub known : AllByRecursion (λ (t : Tally). stands_in t.sender (flat_map senders_to devices) ≡ true) tallies
  pub settled : AllByRecursion (IsDeviceSettled sent tallies) devices
