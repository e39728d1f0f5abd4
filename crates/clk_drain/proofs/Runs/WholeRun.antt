-- What a run comes to, from what each of its parts says.
use Rattle.std.proofs.Common.{◌≡◌, ◌≤◌, Bool, true, List, [], ◌∷◌, length, map, Result, IfOk, IfErr, refl, ap, ◌∙◌, Vec, rules, None}
use Rattle.std.specs.List.{AllByRecursion, AllZip}
use Rattle.std.specs.declared.alloc.Global.{Global}
use Rattle.clk_packet.specs.Trace.{packets_in}
use Rattle.clk_packet.specs.declared.fault.Fault.{Fault}
use Rattle.clk_ruled.specs.Queue.{SeatLists, ClosedLists}
use Rattle.clk_sched.specs.declared.session.keeps.Keeps.{Keeps}
use Rattle.clk_sched.specs.Keeps.{keeps_emitted, keeps_visits}
use Rattle.clk_sched.specs.declared.limits.TheConstants.{MAX_LEFT}
use Rattle.clk_tree.specs.Plan.{Planned}
use Rattle.clk_tree.specs.PlanTree.{device_count}
use Rattle.clk_tree.specs.PlanParts.{queues_of, senders_of, number_of, SharedQueue}
use Rattle.clk_packet.specs.Lists.{AreRising}
use Rattle.clk_sched.specs.Packed.{logged}
use Rattle.clk_drain.specs.declared.outcome.Outcome.{Outcome}
use Rattle.clk_sched.specs.declared.session.packed.PackedLog.{PackedLog}
use Rattle.clk_drain.specs.declared.running.opening.LeafQueue.{LeafQueue}
use Rattle.clk_drain.specs.inside.Threads.{Terms, EndLists, Feed}
use Rattle.clk_drain.specs.inside.Handed.{HasDeviceSent, HavePulled, AreAllJoinable, IsReadyToClose, AreApartDevices, AreKept, AreSettledTogether, IsFaultOfClosing, joined_feeds}
use Rattle.clk_gate.specs.Known.{senders_in, first_unknown}
use Rattle.clk_drain.specs.Run.{IsKeptRun, IsFaultOfRun}
use Rattle.clk_drain.specs.inside.Devices.{AreOpenFrom, KeepsSo}
use Rattle.clk_drain.specs.Outcome.{Device}
use Rattle.clk_drain.proofs.Threads.Joining.{AreJoinedFeeds, all-joined, all-ready, all-apart, joined-kept}
use Rattle.clk_drain.proofs.Plans.PlanSenders.{queues-apart}
use Rattle.clk_drain.proofs.Losses.Refused.{unclosed}
use Rattle.clk_drain.proofs.Plans.Numbered.{all-devices}
use Rattle.clk_drain.proofs.Plans.PlanDevices.{queues_by_device, apart-by-device, opened-by-device, devices-from, moments-closed}

-- what was opened of a plan, and what its threads gave back
pub record HasEnded (keeps : Keeps) (plan : List Planned) (terms : Terms) (queues : List (Vec LeafQueue Global)) (seats : List (Vec (Vec SeatLists Global) Global)) (ends : List EndLists) (closed : List (Vec (Vec ClosedLists Global) Global)) (pulled : List EndLists) : Type 0 where
  pub opened : AreOpenFrom plan terms.traces 0 (device_count plan) queues seats ends
  pub kept : AllByRecursion (KeepsSo keeps) ends
  pub rising : AreRising (map number_of (senders_of plan))
  pub few : packets_in terms.traces ≤ MAX_LEFT
  pub sent : AllZip (HasDeviceSent terms) seats closed
  pub pulled_over : HavePulled terms ends pulled queues

abbrev shared_of : List Planned → List EndLists → List (List SharedQueue)
shared_of plan ends = queues_by_device (queues_of plan) 0 (length ends)

pub record IsJoinedRun (plan : List Planned) (terms : Terms) (queues : List (Vec LeafQueue Global)) (seats : List (Vec (Vec SeatLists Global) Global)) (ends : List EndLists) (closed : List (Vec (Vec ClosedLists Global) Global)) (pulled : List EndLists) : Type 0 where
  pub joinable : AreAllJoinable queues pulled closed
  pub joined : AreJoinedFeeds terms (shared_of plan ends) ends (joined_feeds queues pulled closed)
  pub ready : AllByRecursion (IsReadyToClose terms) (joined_feeds queues pulled closed)
  pub apart : AreApartDevices (joined_feeds queues pulled closed)

pub run-joined : (keeps : Keeps) (plan : List Planned) (terms : Terms) (queues : List (Vec LeafQueue Global)) (seats : List (Vec (Vec SeatLists Global) Global)) (ends : List EndLists) (closed : List (Vec (Vec ClosedLists Global) Global)) (pulled : List EndLists) → HasEnded keeps plan terms queues seats ends closed pulled
    → IsJoinedRun plan terms queues seats ends closed pulled
run-joined keeps plan terms queues seats ends closed pulled h = search (rules, (all-joined terms (shared_of plan ends) queues seats ends pulled closed (search (rules, opened-by-device)) h.sent h.pulled_over), (opened-by-device plan terms.traces 0 (device_count plan) queues seats ends h.opened), (apart-by-device (queues_of plan) 0 (length ends) (queues-apart plan h.rising)), (queues-apart plan h.rising), all-ready, all-apart)

-- Where all sessions keep such things, those that the outcome has are those of the devices.
all-kept : {X : Type 0} (kept : Keeps → Bool) (of : Device → X) (keeps : Keeps) (feeds : List Feed) (xs : List X) (devices : List Device) → kept keeps ≡ true → AllByRecursion (λ (f : Feed). f.keeps ≡ keeps) feeds → AreKept kept of feeds xs devices → xs ≡ map of devices
all-kept kept of keeps [] [] [] is all h = refl
all-kept kept of keeps [] [] (d ∷ devices) is all h = absurd h
all-kept kept of keeps [] (x ∷ xs) devices is all h = absurd h
all-kept kept of keeps (f ∷ feeds) [] devices is all h = absurd h
all-kept kept of keeps (f ∷ feeds) (x ∷ xs) [] is all h = absurd h
all-kept kept of keeps (f ∷ feeds) (x ∷ xs) (d ∷ devices) is all h = λ i. h.0 (ap kept all.0 ∙ is) i ∷ all-kept kept of keeps feeds xs devices is all.1 h.1 i

pub run-settled : (keeps : Keeps) (plan : List Planned) (terms : Terms) (queues : List (Vec LeafQueue Global)) (seats : List (Vec (Vec SeatLists Global) Global)) (ends : List EndLists) (closed : List (Vec (Vec ClosedLists Global) Global)) (pulled : List EndLists) (outcome : Outcome PackedLog) → HasEnded keeps plan terms queues seats ends closed pulled
    → AreSettledTogether terms (joined_feeds queues pulled closed) outcome → IsKeptRun keeps plan terms.traces terms.step terms.limit outcome
run-settled keeps plan terms queues seats ends closed pulled outcome h settled =
    let feeds = joined_feeds queues pulled closed in
    let joined = run-joined keeps plan terms queues seats ends closed pulled h in
    let kept = joined-kept keeps terms (shared_of plan ends) ends feeds h.kept joined.joined in record {
      logs = map (λ (d : Device). d.log) settled.devices;
      packets = map (λ (d : Device). d.emitted) settled.devices;
      kept = λ is. all-kept keeps_visits (λ (d : Device). d.log) keeps feeds (map logged outcome.logs.items) settled.devices is kept settled.logs;
      told = λ is. all-kept keeps_emitted (λ (d : Device). d.emitted) keeps feeds (map (λ packets. packets.items) outcome.emitted.items) settled.devices is kept settled.emitted;
      is = search (rules, all-devices, devices-from, moments-closed);
    }

-- What closing the devices answers is what the run answers.
pub answered-ok : (keeps : Keeps) (plan : List Planned) (terms shared : Terms) (queues : List (Vec LeafQueue Global)) (seats : List (Vec (Vec SeatLists Global) Global)) (ends : List EndLists) (closed : List (Vec (Vec ClosedLists Global) Global)) (pulled : List EndLists) (feeds : List Feed) (result : Result (Outcome PackedLog) Fault) → shared ≡ terms
    → feeds ≡ joined_feeds queues pulled closed → HasEnded keeps plan terms queues seats ends closed pulled → IfOk result (AreSettledTogether shared feeds) → IfOk result (IsKeptRun keeps plan terms.traces terms.step terms.limit)
answered-ok keeps plan terms shared queues seats ends closed pulled feeds result same are h settled = search (rules, run-settled)

pub answered-err : (keeps : Keeps) (plan : List Planned) (terms : Terms) (queues : List (Vec LeafQueue Global)) (seats : List (Vec (Vec SeatLists Global) Global)) (ends : List EndLists) (closed : List (Vec (Vec ClosedLists Global) Global)) (pulled : List EndLists) (feeds : List Feed) (result : Result (Outcome PackedLog) Fault) → feeds ≡ joined_feeds queues pulled closed
    → HasEnded keeps plan terms queues seats ends closed pulled → first_unknown (senders_in plan) terms.traces ≡ None → IfErr result (IsFaultOfClosing feeds) → IfErr result (IsFaultOfRun plan terms.traces)
answered-err keeps plan terms queues seats ends closed pulled feeds result are h known o = search (rules, unclosed, (queues-apart plan h.rising), (run-joined keeps plan terms queues seats ends closed pulled h))
