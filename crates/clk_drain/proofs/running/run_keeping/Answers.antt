use Rattle.std.proofs.Common.{ℕ, List, map, sym, subst, Vec, rules, None, ◌≡◌}
use Rattle.std.specs.declared.alloc.Global.{Global}
use Rattle.std.specs.List.{AllByRecursion}
use Rattle.clk_packet.specs.declared.packet.Packet.{Packet}
use Rattle.clk_tree.specs.declared.plan.parts.SenderSpec.{SenderSpec}
use Rattle.clk_tree.specs.PlanParts.{number_of}
use Rattle.clk_gate.specs.Known.{first_unknown}
use Rattle.clk_drain.specs.declared.running.opening.LeafQueue.{LeafQueue}
use Rattle.clk_drain.specs.inside.Threads.{Terms, Feed}
use Rattle.clk_drain.specs.inside.Handed.{FitPlaces, AreAllUnused, IsReadyToClose, AreApartDevices}
use Rattle.clk_drain.proofs.Threads.Opened.{unused-opened, unpulled-opened}
use Rattle.clk_drain.proofs.Runs.WholeRun.{HasEnded, run-joined, answered-ok, answered-err}
use Rattle.clk_drain.proofs.running.run_keeping.Given as given
use Rattle.clk_drain.proofs.running.run_keeping.Goals as goal

-- what all threads share
abbrev terms_of : (traces : List (List Packet)) (step limit : ℕ) → Terms
terms_of traces step limit = record { traces = traces; step = step; limit = limit }

pub run_threads-requires-clause-unused : goal.run_threads-requires-clause-unused
run_threads-requires-clause-unused g c κs within =
    subst (λ (x : Terms × List (Vec LeafQueue Global)). FitPlaces (AreAllUnused x.0) c.in_ok-queues.field-0.seats.items x.1) (λ i. (sym c.new-terms.ensures i, sym c.deref.ensures.value i))
    (unused-opened c.args.plan.now (terms_of c.args.traces.now c.args.step c.args.limit) 0 _ _ _ _ c.in_ok-queues.ensures.opened)

pub run_threads-requires-clause-unpulled : goal.run_threads-requires-clause-unpulled
run_threads-requires-clause-unpulled g c κs within = search (rules, unpulled-opened)

-- what the threads gave back
ended : (g : given.Over) (c : goal.In_ok-sent g)
    → HasEnded c.args.keeps c.args.plan.now (terms_of c.args.traces.now c.args.step c.args.limit) c.in_ok-queues.field-0.queues.items c.in_ok-queues.field-0.seats.items c.in_ok-queues.field-0.ends.items c.in_ok-sent.sent.devices.items c.in_ok-sent.sent.ends.items
ended g c = search rules

pub join_devices-requires : goal.join_devices-requires
join_devices-requires g c = record { joinable = (run-joined _ _ _ _ _ _ _ _ (ended g c)).joinable }

pub close_devices-requires-clause-ready : goal.close_devices-requires-clause-ready
close_devices-requires-clause-ready g c =
    subst (λ (x : Terms × List Feed). AllByRecursion (IsReadyToClose x.0) x.1) (λ i. (sym c.new-terms.ensures i, sym c.in_ok-closings.ensures.joined i)) (run-joined _ _ _ _ _ _ _ _ (ended g c.before.before.before.before)).ready

pub close_devices-requires-clause-apart : goal.close_devices-requires-clause-apart
close_devices-requires-clause-apart g c = subst AreApartDevices (sym c.in_ok-closings.ensures.joined) (run-joined _ _ _ _ _ _ _ _ (ended g c.before.before.before.before)).apart

pub returns-clause-outcome : goal.returns-clause-outcome
returns-clause-outcome g c =
    answered-ok _ _ _ c.new-terms.result _ _ _ _ _ c.in_ok-closings.closings.items c.close_devices.result c.new-terms.ensures c.in_ok-closings.ensures.joined (ended g c.before.before.before.before.before.before.before.before) c.close_devices.ensures.settled

pub returns-clause-fault : goal.returns-clause-fault
returns-clause-fault g c =
    let known = subst (λ (senders : List SenderSpec). first_unknown (map number_of senders) c.args.traces.now ≡ None) c.senders.ensures.senders c.in_ok-check_senders.ensures.known in
    answered-err _ _ _ _ _ _ _ _ c.in_ok-closings.closings.items c.close_devices.result c.in_ok-closings.ensures.joined (ended g c.before.before.before.before.before.before.before.before) known c.close_devices.ensures.fault
