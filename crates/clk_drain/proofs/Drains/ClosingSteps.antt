-- Devices are closed one after another.
use Rattle.std.proofs.Common.{◌≡◌, Bool, true, Vec, List, [], ◌∷◌, ◌++◌, map, sym, ap, ◌∙◌, subst, arith, append_assoc, append-nil, rules}
use Rattle.std.proofs.lemmas.Grind.{common_steps, flat_map-append}
use Rattle.std.proofs.lemmas.Bool.Decides.{nat_tests}
use Rattle.std.specs.List.{flat_map, AllByRecursion}
use Rattle.std.specs.declared.alloc.Global.{Global}
use Rattle.std.proofs.lemmas.List.{map-append}
use Rattle.clk_packet.specs.declared.packet.Packet.{Packet}
use Rattle.clk_packet.specs.declared.tally.Tally.{Tally}
use Rattle.clk_packet.specs.declared.fault.Fault.{Fault}
use Rattle.clk_packet.specs.Trace.{sent_by}
use Rattle.clk_sched.specs.declared.visit.Visit.{Visit}
use Rattle.clk_sched.specs.declared.session.keeps.Keeps.{Keeps}
use Rattle.clk_sched.specs.Keeps.{keeps_emitted, keeps_visits}
use Rattle.clk_sched.specs.Packed.{logged}
use Rattle.clk_sched.specs.declared.session.packed.PackedLog.{PackedLog}
use Rattle.clk_drain.specs.declared.drained.Drained.{Drained}
use Rattle.clk_drain.specs.declared.outcome.Outcome.{Outcome}
use Rattle.clk_drain.specs.Line.{seats_in, senders_at}
use Rattle.clk_drain.specs.Outcome.{Device, senders_to}
use Rattle.clk_drain.specs.Closing.{device_of, seated, AreInOrder, IsDrainedTo, IsFaultOfDrain}
use Rattle.clk_drain.specs.Lost.{SeatedQueue, HasReached, NamesFirstLost}
use Rattle.clk_drain.specs.inside.Closing.{IsDrainedAs}
use Rattle.clk_drain.specs.inside.Threads.{Terms, Feed}
use Rattle.clk_drain.specs.inside.Handed.{IsReadyToClose, AreApartDevices, IsClosedDevice, AreClosedDevices, AreKept, AreSettledTogether, seated_in, IsFaultOfClosing}
use Rattle.clk_drain.proofs.Runs.ManyDevices.{Part, devices_of, tallies_in_all, AreSettled, devices-settled}
use Rattle.clk_drain.proofs.Drains.Settling.{senders-same}
use Rattle.clk_drain.proofs.Leaves.Pulling.{steps-count}
use Rattle.clk_packet.proofs.Callers.Lists.{all-append}

-- Some of the devices are closed, this is what they came to, and the others are to come.
pub record AreClosing (terms : Terms) (all done left : List Feed) (outcome : Outcome PackedLog) : Type 0 where
  pub parts : List Part
  pub closed : AreClosedDevices terms done (devices_of parts)
  pub settled : AreSettled (sent_by terms.traces) parts
  pub logs : AreKept keeps_visits (λ (d : Device). d.log) done (map logged outcome.logs.items) (devices_of parts)
  pub emitted : AreKept keeps_emitted (λ (d : Device). d.emitted) done (map (λ packets. packets.items) outcome.emitted.items) (devices_of parts)
  pub tallies : outcome.tallies.items ≡ tallies_in_all parts
  pub reached : AllByRecursion HasReached (seated_in done)
  pub all_are : done ++ left ≡ all

-- A drained device is closed: it was pulled once each step, and then one tick apart.
closed-device : (terms : Terms) (f : Feed) (log : List Visit) (emitted : List Packet) (tallies : List Tally) → IsReadyToClose terms f → IsDrainedTo f.session f.lines 0 log emitted tallies → IsClosedDevice terms f (device_of f.session f.lines log emitted)
closed-device terms f log emitted tallies ready over = grind (arith, common_steps, nat_tests, steps-count)

closed-more : (terms : Terms) (done : List Feed) (parts : List Part) (f : Feed) (p : Part) → AreClosedDevices terms done (devices_of parts) → IsClosedDevice terms f p.device → AreClosedDevices terms (done ++ f ∷ []) (devices_of (parts ++ p ∷ []))
closed-more terms [] parts f p h is = grind (arith, common_steps, nat_tests)
closed-more terms (g ∷ done) [] f p h is = absurd h
closed-more terms (g ∷ done) (q ∷ parts) f p h is = (h.0, closed-more terms done parts f p h.1 is)

kept-more : {X : Type 0} (kept : Keeps → Bool) (of : Device → X) (done : List Feed) (xs : List X) (parts : List Part) (f : Feed) (x : X) (p : Part) → AreKept kept of done xs (devices_of parts) → (kept f.keeps ≡ true → x ≡ of p.device)
    → AreKept kept of (done ++ f ∷ []) (xs ++ x ∷ []) (devices_of (parts ++ p ∷ []))
kept-more kept of [] [] [] f x p h is = (is, tt)
kept-more kept of (g ∷ done) (y ∷ xs) (q ∷ parts) f x p h is = (h.0, kept-more kept of done xs parts f x p h.1 is)
kept-more kept of [] [] (q ∷ parts) f x p h is = absurd h
kept-more kept of [] (y ∷ xs) parts f x p h is = absurd h
kept-more kept of (g ∷ done) [] parts f x p h is = absurd h
kept-more kept of (g ∷ done) (y ∷ xs) [] f x p h is = absurd h

-- the queues of the devices, and those of one more
seated-more : (done : List Feed) (f : Feed) → seated_in (done ++ f ∷ []) ≡ seated_in done ++ map seated f.lines
seated-more done f = search (rules, flat_map-append)

-- What a device came to is added.
pub record IsNoted (drained : Drained PackedLog) (old new : Outcome PackedLog) : Type 0 where
  pub logs : new.logs.items ≡ old.logs.items ++ drained.log ∷ []
  pub emitted : new.emitted.items ≡ old.emitted.items ++ drained.emitted ∷ []
  pub tallies : new.tallies.items ≡ old.tallies.items ++ drained.tallies.items

pub closing-more : (terms : Terms) (all done left before : List Feed) (f : Feed) (drained : Drained PackedLog) (old new : Outcome PackedLog) → before ≡ f ∷ left → IsReadyToClose terms f → IsDrainedAs f.session f.keeps f.lines 0 drained → AllByRecursion HasReached (map seated f.lines) → IsNoted drained old new
    → AreClosing terms all done before old → AreClosing terms all (done ++ f ∷ []) left new
closing-more terms all done left before f drained old new next ready over reached noted h =
    let p : Part = record { device = device_of f.session f.lines over.log over.emitted; tallies = drained.tallies.items } in record {
      parts = h.parts ++ p ∷ [];
      closed = search (rules, closed-more, closed-device);
      settled = all-append _ h.parts (p ∷ []) h.settled (over.is.outcome (sent_by terms.traces) ready.sent, tt);
      logs =
          subst (λ logs. AreKept keeps_visits (λ (d : Device). d.log) (done ++ f ∷ []) logs (devices_of (h.parts ++ p ∷ []))) (sym (ap (map logged) noted.logs ∙ map-append logged old.logs.items (drained.log ∷ [])))
          (kept-more keeps_visits (λ (d : Device). d.log) done (map logged old.logs.items) h.parts f (logged drained.log) p h.logs over.kept);
      emitted =
          subst (λ packets. AreKept keeps_emitted (λ (d : Device). d.emitted) (done ++ f ∷ []) packets (devices_of (h.parts ++ p ∷ [])))
          (sym (ap (map (λ (packets : Vec Packet Global). packets.items)) noted.emitted ∙ map-append (λ (packets : Vec Packet Global). packets.items) old.emitted.items (drained.emitted ∷ [])))
          (kept-more keeps_emitted (λ (d : Device). d.emitted) done (map (λ (packets : Vec Packet Global). packets.items) old.emitted.items) h.parts f drained.emitted.items p h.emitted over.told);
      tallies = search (rules, append-nil, flat_map-append);
      reached = search (rules, seated-more, all-append);
      all_are = search (rules, append_assoc);
    }

-- What is ready is found behind what is done.
ready-behind : (terms : Terms) (done left : List Feed) (f : Feed) → AllByRecursion (IsReadyToClose terms) (done ++ f ∷ left) → IsReadyToClose terms f
ready-behind terms [] left f h = h.0
ready-behind terms (g ∷ done) left f h = ready-behind terms done left f h.1

pub next-ready : (terms : Terms) (all done left before : List Feed) (f : Feed) (outcome : Outcome PackedLog) → before ≡ f ∷ left → AreClosing terms all done before outcome → AllByRecursion (IsReadyToClose terms) all → IsReadyToClose terms f
next-ready terms all done left before f outcome next h ready = search (rules, ready-behind)

-- Why a device isn't closed: the first queue of its own that lost packets is the first of all, where those of the devices before it reached
-- their capacities.
lost-behind : (earlier own later : List SeatedQueue) (fault : Fault) → AllByRecursion HasReached earlier → NamesFirstLost own fault → NamesFirstLost (earlier ++ (own ++ later)) fault
lost-behind earlier own later fault reached names = record {
  earlier = earlier ++ names.earlier;
  first = names.first;
  later = names.later ++ later;
  all =
      ap (λ queues. earlier ++ (queues ++ later)) names.all
      ∙ ap (λ queues. earlier ++ queues) (append_assoc names.earlier (names.first ∷ names.later) later)
      ∙ sym (append_assoc earlier names.earlier (names.first ∷ (names.later ++ later)));
  reached = all-append HasReached earlier names.earlier reached names.reached;
  taken = names.taken;
  below = names.below;
  fault_is = names.fault_is;
}

fault-behind : (done left : List Feed) (f : Feed) (fault : Fault) → AllByRecursion HasReached (seated_in done) → IsFaultOfDrain f.lines fault → IsFaultOfClosing (done ++ f ∷ left) fault
fault-behind done left f fault reached o = search (rules, flat_map-append, lost-behind)

pub next-fault : (terms : Terms) (all done left before : List Feed) (f : Feed) (outcome : Outcome PackedLog) (fault : Fault) → before ≡ f ∷ left → AreClosing terms all done before outcome → IsFaultOfDrain f.lines fault → IsFaultOfClosing all fault
next-fault terms all done left before f outcome fault next h is = search (rules, fault-behind)

-- All devices are closed, and their tallies are put in order.
closed-senders : (terms : Terms) (feeds : List Feed) (devices : List Device) → AreClosedDevices terms feeds devices → flat_map senders_to devices ≡ flat_map (λ (f : Feed). senders_at (seats_in f.lines)) feeds
closed-senders terms [] devices h = search rules
closed-senders terms (f ∷ feeds) [] h = absurd h
closed-senders terms (f ∷ feeds) (d ∷ devices) h = search (rules, senders-same, (closed-senders terms feeds devices h.1))

pub all-closed : (terms : Terms) (all done left : List Feed) (old new : Outcome PackedLog) → left ≡ [] → new.logs.items ≡ old.logs.items → new.emitted.items ≡ old.emitted.items → AreInOrder old.tallies.items new.tallies.items → AreApartDevices all
    → AreClosing terms all done left old → AreSettledTogether terms all new
all-closed terms all done left old new none logs emitted order apart h =
    let done_are : done ≡ all = sym (append-nil done) ∙ ap (λ rest. done ++ rest) (sym none) ∙ h.all_are in
    let closed : AreClosedDevices terms all (devices_of h.parts) = search rules in record {
      devices = devices_of h.parts;
      closed = closed;
      logs = search rules;
      emitted = search rules;
      settled = devices-settled (sent_by terms.traces) h.parts new.tallies.items h.settled (search (rules, closed-senders))
          (subst (λ tallies. AreInOrder tallies new.tallies.items) h.tallies order);
    }
