-- The devices of a plan by number: what was opened for each, what each came to, and that no sender sends to two.
use Rattle.std.proofs.Common.{◌≡◌, ℕ, zero, suc, ◌+◌, ◌==◌, true, List, [], ◌∷◌, ◌++◌, length, map, filter, refl, sym, ap, ◌∙◌, subst, Vec, rules, arith}
use Rattle.std.specs.declared.alloc.Global.{Global}
use Rattle.std.specs.List.{flat_map, range_with_len, AllByRecursion}
use Rattle.clk_packet.specs.declared.packet.Packet.{Packet}
use Rattle.clk_packet.specs.Lists.{are_distinct, stands_in}
use Rattle.clk_ruled.specs.Queue.{SeatLists}
use Rattle.clk_sched.specs.Tree.{Tree, root, leaves}
use Rattle.clk_tree.specs.Plan.{Planned}
use Rattle.clk_tree.specs.PlanTree.{device_count, IsTreeOf}
use Rattle.clk_tree.specs.PlanParts.{Queued, queues_of, SharedQueue}
use Rattle.clk_drain.specs.declared.running.opening.LeafQueue.{LeafQueue}
use Rattle.clk_drain.specs.Outcome.{Device}
use Rattle.clk_drain.specs.Moments.{HasMoments}
use Rattle.clk_drain.specs.inside.Threads.{Terms, EndLists, Feed}
use Rattle.clk_drain.specs.inside.Handed.{AreClosedDevices}
use Rattle.clk_drain.proofs.Plans.Numbered.{AreDevicesFrom}
use Rattle.clk_drain.specs.Opening.{queues_at}
use Rattle.clk_drain.specs.inside.Devices.{AreOpenFrom}
use Rattle.clk_drain.proofs.Threads.Joining.{AreAllOpenAs, AreJoinedFeeds, senders_over}
use Rattle.clk_drain.proofs.Plans.PlanSenders.{apart-by-kind}
use Rattle.clk_drain.proofs.Plans.QueuesAt.{stands-at, senders-at, by-leaves}

-- the queues of each of so many devices, from a number on
abbrev pub queues_by_device : List Queued → ℕ → ℕ → List (List SharedQueue)
queues_by_device queues first count = map (λ d. queues_at d 0 queues) (range_with_len first count)

senders-by-device : (queues : List Queued) (first count : ℕ)
    → flat_map senders_over (queues_by_device queues first count) ≡ flat_map (λ (d : ℕ). flat_map (λ (q : Queued). q.senders) (filter (λ (q : Queued). q.device == d) queues)) (range_with_len first count)
senders-by-device queues first zero = refl
senders-by-device queues first (suc count) = λ i. senders-at first 0 queues i ++ senders-by-device queues (first + 1) count i

-- Where no sender sends to two queues, none sends to two devices.
pub apart-by-device : (queues : List Queued) (first count : ℕ) → are_distinct (flat_map (λ (q : Queued). q.senders) queues) ≡ true → are_distinct (flat_map senders_over (queues_by_device queues first count)) ≡ true
apart-by-device queues first count apart = subst (λ ns. are_distinct ns ≡ true) (sym (senders-by-device queues first count)) (search (rules, apart-by-kind))

-- Each device's queues were opened.
pub opened-by-device : (plan : List Planned) (traces : List (List Packet)) (device end : ℕ) (queues : List (Vec LeafQueue Global)) (seats : List (Vec (Vec SeatLists Global) Global)) (ends : List EndLists) → AreOpenFrom plan traces device end queues seats ends
    → AreAllOpenAs traces (queues_by_device (queues_of plan) device (length ends)) queues seats ends
opened-by-device plan traces device end [] [] [] h = tt
opened-by-device plan traces device end (q ∷ queues) (s ∷ seats) (e ∷ ends) h = search (rules, (opened-by-device plan traces (suc device) end queues seats ends h.1))
opened-by-device plan traces device end queues seats ends h = absurd h

-- What each device came to is that of the plan's device.
pub devices-from : (plan : List Planned) (terms : Terms) (device : ℕ) (queues : List (Vec LeafQueue Global)) (seats : List (Vec (Vec SeatLists Global) Global)) (ends : List EndLists) (feeds : List Feed) (devices : List Device) → AreOpenFrom plan terms.traces device (device_count plan) queues seats ends
    → AreJoinedFeeds terms (queues_by_device (queues_of plan) device (length ends)) ends feeds → AreClosedDevices terms feeds devices → AreDevicesFrom plan device devices
devices-from plan terms device [] [] [] [] [] h joined closed = h
devices-from plan terms device [] [] [] [] (d ∷ devices) h joined closed = absurd closed
devices-from plan terms device [] [] [] (f ∷ feeds) devices h joined closed = absurd joined
devices-from plan terms device (q ∷ queues) (s ∷ seats) (e ∷ ends) [] devices h joined closed = absurd joined
devices-from plan terms device (q ∷ queues) (s ∷ seats) (e ∷ ends) (f ∷ feeds) [] h joined closed = absurd closed
devices-from plan terms device (q ∷ queues) (s ∷ seats) (e ∷ ends) (f ∷ feeds) (d ∷ devices) h joined closed = (
  record {
    tree = subst (IsTreeOf plan device) (sym (closed.0.tree ∙ joined.0.tree_is)) h.0.tree;
    queues = closed.0.queues ∙ joined.0.queues_are
        ∙ sym (by-leaves plan device d.tree (λ q. ap (λ (t : Tree). stands_in q (leaves (root t))) (closed.0.tree ∙ joined.0.tree_is) ∙ h.0.leaves_are q ∙ stands-at device q (queues_of plan)));
  },
  devices-from plan terms (suc device) queues seats ends feeds devices h.1
      (let next : device + 1 ≡ suc device = omega arith in subst (λ n. AreJoinedFeeds terms (queues_by_device (queues_of plan) n (length ends)) ends feeds) next joined.1)
      closed.1,
)
devices-from plan terms device queues seats ends feeds devices h joined closed = absurd h

-- Each device was pulled when it was to be pulled.
pub moments-closed : (terms : Terms) (feeds : List Feed) (devices : List Device) → AreClosedDevices terms feeds devices → AllByRecursion (λ (d : Device). HasMoments terms.step terms.limit d.tree d.log) devices
moments-closed terms [] devices closed = search rules
moments-closed terms (f ∷ feeds) [] closed = absurd closed
moments-closed terms (f ∷ feeds) (d ∷ devices) closed = (closed.0.moments, moments-closed terms feeds devices closed.1)
