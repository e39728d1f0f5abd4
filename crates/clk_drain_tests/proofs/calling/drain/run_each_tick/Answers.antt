use Rattle.std.proofs.Common.{ℕ, List, Option, Some, None, MatchOption}
use Rattle.std.specs.List.{AllByRecursion}
use Rattle.std.proofs.lemmas.Result.{IfOk-weaker}
use Rattle.clk_packet.specs.declared.packet.Packet.{Packet}
use Rattle.clk_packet.specs.declared.tally.Tally.{Tally}
use Rattle.clk_sched.proofs.Callers.Lists.{all-weaker}
use Rattle.clk_packet.specs.Lists.{of_sender}
use Rattle.clk_packet.specs.Dealt.{IsTallyOf}
use Rattle.clk_ruled.specs.Queue.{IsDealt}
use Rattle.clk_packet.specs.Trace.{sent_by}
use Rattle.clk_drain.specs.Outcome.{Device, tally_for, IsQueueSettled, IsDeviceSettled}
use Rattle.clk_tree.specs.PlanParts.{SharedQueue}
use Rattle.clk_drain.specs.Run.{IsRunOutcome}
use Rattle.clk_drain_tests.proofs.calling.drain.run_each_tick.Goals as goal

-- This tally accounts for all packets that its sender sent to a queue of a device.
abbrev IsTallied : (ℕ → List Packet) → Device → SharedQueue → Tally → Type 0
IsTallied sent d q t = IsTallyOf (sent t.sender) (of_sender t.sender d.emitted) q.kind t

-- what the clause says of a tally
abbrev DealsOut : Device → Tally → Type 0
DealsOut d t = IsDealt t.accepted t.evicted (of_sender t.sender d.emitted)

abbrev DealsAllOut : List Tally → Device → Type 0
DealsAllOut tallies d = AllByRecursion (λ (q : SharedQueue). AllByRecursion (λ s. MatchOption (tally_for tallies s) ⊥ (DealsOut d)) q.senders) d.queues

dealt : (sent : ℕ → List Packet) (d : Device) (q : SharedQueue) (found : Option Tally) → MatchOption found ⊥ (IsTallied sent d q) → MatchOption found ⊥ (DealsOut d)
dealt sent d q None h = h
dealt sent d q (Some t) h = h.accepted_are

all-dealt : (sent : ℕ → List Packet) (tallies : List Tally) (d : Device) → IsDeviceSettled sent tallies d → DealsAllOut tallies d
all-dealt sent tallies d settled =
    all-weaker (IsQueueSettled sent tallies d) _ d.queues
    (λ q h. all-weaker (λ s. MatchOption (tally_for tallies s) ⊥ (IsTallied sent d q)) _ q.senders (λ s t. dealt sent d q (tally_for tallies s) t) h.each)
    settled.queues

pub returns-clause-emitted : goal.returns-clause-emitted
returns-clause-emitted g c =
    let traces = c.args.traces.now in
    IfOk-weaker c.run.result (IsRunOutcome c.args.plan.now traces 1 1000) _
    (λ outcome h. (h.devices, h.each, h.emitted, all-weaker (IsDeviceSettled (sent_by traces) outcome.tallies.items) _ h.devices (all-dealt (sent_by traces) outcome.tallies.items) h.settled.settled))
    c.run.ensures.outcome
